-- Notes with their changes.
use Rattle.std.specs.Prelude.{ℕ, ◌<◌, ◌≤◌, List, [], ◌∷◌, length, map, drop, slice_set}
use Rattle.std.specs.List.{All}
use Rattle.std.specs.List.Sorted.{IsNonDecreasingBy}
use Rattle.resource_table.specs.declared.history.Note.{Note}
use Rattle.resource_table.specs.declared.history.Change.{Change}
use Rattle.resource_table.specs.declared.history.History.{History}

-- nothing is noted
abbrev pub no_note : Note
no_note = record { start = 0; depth = 0 }

-- notes without these changes, which were made one after another
abbrev pub rewound : List Change → List Note → List Note
rewound [] values = values
rewound (c ∷ later) values = slice_set (rewound later values) c.place c.was

-- the notes as they were after the first `n` changes
abbrev pub at_change : History → ℕ → List Note
at_change h n = rewound (drop n h.log.items) h.values.items

-- the notes as they were at each mark
abbrev pub past_of : History → List (List Note)
past_of h = map (at_change h) h.marks.items

abbrev pub ArePlaces : History → Type 0
ArePlaces h = All (λ (c : Change). c.place < length h.values.items) h.log.items

-- each mark stands behind those before it, and behind changes that were made
pub record IsHistory (h : History) : Type 0 where
  pub places : ArePlaces h
  pub marks : All (λ (m : ℕ). m ≤ length h.log.items) h.marks.items
  pub rises : IsNonDecreasingBy (λ (m : ℕ). m) h.marks.items
