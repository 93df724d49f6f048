-- Where the rows of a plan's cycles come from.
use Rattle.std.specs.Prelude.{◌≡◌, ℕ, ◌+◌, ◌*◌, ◌≤◌, List, length}
use Rattle.soc_model.specs.Chips.{SocValue, soc_value}
use Rattle.plan_model.specs.Plans.{PlanValue}
use Rattle.plan_model.specs.Rules.{IsGoodAlone}
use Rattle.plan_model.specs.Views.{plan_value}
use Rattle.vector_lines.specs.Wires.{wires_of}
use Rattle.vector_lines.specs.Marks.{Keys}
use Rattle.vector_lines.specs.Vectors.{AreVectors}
use Rattle.controls.specs.Controls.{controls}
use Rattle.controls.specs.Tests.{AreControlRows}
use Rattle.cycle_texts.specs.declared.sources.RowSource.{RowSource}

-- the vectors of a good plan for contents with these keys, and its controls
pub record IsSourceOf (keys : Keys) (soc : SocValue) (plan : PlanValue) (source : RowSource) : Type 0 where
  pub good : IsGoodAlone soc plan
  pub vectors : AreVectors keys soc plan source.vectors
  pub rows : AreControlRows soc plan source.controls
  pub wires : source.wires ≡ wires_of plan
  pub narrow : wires_of plan ≤ 256
  pub width : source.width ≡ length (controls soc)
  pub cycles : source.cycles ≡ plan.cycles
  pub some : 1 ≤ source.most
  pub few : source.most ≤ plan.cycles + 1

abbrev pub IsSource : Keys → RowSource → Type 0
IsSource keys source = IsSourceOf keys (soc_value source.soc.now) (plan_value source.plan.now) source

-- there is room for the rows of a block and of the cycle before it, and for a part of at most so many bytes
pub record HaveRoom (source : RowSource) (part : ℕ) (lines digits text : List ℕ) : Type 0 where
  pub of_lines : (source.most + 1) * (2 * source.wires + 2) ≤ length lines
  pub of_digits : (source.most + 1) * source.width ≤ length digits
  pub of_text : part ≤ length text
