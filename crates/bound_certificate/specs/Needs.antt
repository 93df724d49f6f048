-- The needs of the modules by their places.
use Rattle.std.specs.Prelude.{ℕ, List, map, nat_eq, slice_index, if◌then◌else◌}
use Rattle.std.specs.List.{filter}
use Rattle.soc_model.specs.Chips.{SocValue}
use Rattle.plan_model.specs.Bounds.{need}
use Rattle.plan_model.specs.Certificates.{has_tam_at}
use Rattle.bound_certificate.specs.Best.{places, number_at}

-- what the module at a place needs, or 0 where it has no test over the wires
abbrev pub need_or_zero : SocValue → (w b place : ℕ) → ℕ
need_or_zero soc w b place = if has_tam_at soc place then need soc w b place else 0

-- the modules of this need, where their needs stand in a list
abbrev pub of_need : SocValue → List ℕ → ℕ → List ℕ
of_need soc needs k = map (number_at soc) (filter (λ place. nat_eq (slice_index needs place) k) (places soc))
