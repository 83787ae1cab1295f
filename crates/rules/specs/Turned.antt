-- Request #109: actions, passages and plans turned front to back, and as they are seen from the depot's side. The machine (Machine) reads its
-- tables by what is seen, so that it is one for both sides; the rules of the policies (Policies) do not need this file.
use Rattle.std.specs.Prelude.{ℕ, suc, ◌-◌, map}
use Rattle.rules.specs.declared.Side.{Side}
use Rattle.rules.specs.declared.Side.TheVariants.{FrontSide, BackSide}
use Rattle.rules.specs.declared.Layout.{Layout}
use Rattle.rules.specs.declared.Action.{Action}
use Rattle.rules.specs.declared.Action.TheVariants.{Void, Bottom, Top, Gap, Once, Twice}
use Rattle.rules.specs.declared.Passage.{Passage}
use Rattle.rules.specs.declared.Passage.TheVariants.{P00, P02, P11, P20, P22}
use Rattle.rules.specs.Store.{side_of}
use Rattle.rules.specs.Plans.{Plan}

-- a height of an aisle with so many cells, counted from the back crossing
abbrev pub turned_height : ℕ → ℕ → ℕ
turned_height cells k = suc cells - k

-- an action turned: TOP for BOTTOM and BOTTOM for TOP, at the cell counted from the back
abbrev pub turned_action : ℕ → Action → Action
turned_action cells Void = Void
turned_action cells (Bottom i) = Top (turned_height cells i)
turned_action cells (Top i) = Bottom (turned_height cells i)
turned_action cells (Gap h i) = Gap (turned_height cells i) (turned_height cells h)
turned_action cells Once = Once
turned_action cells Twice = Twice

-- a passage turned: its digits exchanged
abbrev pub turned_passage : Passage → Passage
turned_passage P00 = P00
turned_passage P02 = P20
turned_passage P11 = P11
turned_passage P20 = P02
turned_passage P22 = P22

-- a plan turned: its actions and passages are
abbrev pub turned_plan : ℕ → Plan → Plan
turned_plan cells plan = record { actions = map (turned_action cells) plan.actions; passages = map turned_passage plan.passages }

-- an action as it is seen from a side: at the front as it is, at the back turned
abbrev pub seen_from : Side → ℕ → Action → Action
seen_from FrontSide cells a = a
seen_from BackSide cells a = turned_action cells a

-- an action as it is seen from the depot's side
abbrev pub seen : Layout → Action → Action
seen z a = seen_from (side_of z) z.cells a

-- a passage as it is seen from a side
abbrev pub passage_from : Side → Passage → Passage
passage_from FrontSide p = p
passage_from BackSide p = turned_passage p

-- a passage as it is seen from the depot's side
abbrev pub seen_passage : Layout → Passage → Passage
seen_passage z p = passage_from (side_of z) p

-- a plan as it is seen from a side
abbrev pub plan_from : Side → ℕ → Plan → Plan
plan_from FrontSide cells plan = plan
plan_from BackSide cells plan = turned_plan cells plan

-- a plan as it is seen from the depot's side
abbrev pub seen_plan : Layout → Plan → Plan
seen_plan z plan = plan_from (side_of z) z.cells plan
