-- The names of the tests that have profiles.
use Rattle.std.specs.Prelude.{List, map}
use Rattle.soc_model.specs.declared.TestId.{TestId}
use Rattle.plan_model.specs.declared.Profile.{Profile}

-- the names of the tests of profiles, in their order
abbrev pub names_of : List Profile → List TestId
names_of profiles = map (λ (p : Profile). p.test) profiles
