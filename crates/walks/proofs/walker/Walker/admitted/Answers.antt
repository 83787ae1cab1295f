-- `walks::walker::Walker::admitted` meets its contract: by how many treads are left of the letter's edge, and at the point.
use Rattle.std.proofs.Common.{ℕ, ◌+◌, ◌*◌, ◌≡◌, ◌↔◌, true, get_or, set, sym, ap, ◌∙◌, subst, arith}
use borrow.Author.Tests.{eq-eqb}
use Rattle.flood.specs.Flooded.{AllReached, Ranged}
use Rattle.flood.specs.Points.{next_by}
use Rattle.walks.specs.Letters.{slot_by}
use Rattle.walks.proofs.Stepping.{at_in, next_range, rest_range, letter_none, letter_spare, letter_alone, letter_last, slot_below}
use Rattle.walks.proofs.walker.Walker.admitted.Goals as goal
use Rattle.walks.proofs.walker.Walker.admitted.Goals.{After-slot_of-slot, In-1}

-- the point lies in the list
pub slot_of-slot-requires : goal.slot_of-slot-requires
slot_of-slot-requires c = let w = c.args.self.now in at_in w.layout w.left w.at c.requires

pub bounds-self-slot : goal.bounds-self-slot
bounds-self-slot c =
    let w = c.args.self.now in
    omega (arith, c.slot_of-slot.ensures, slot_below c.args.step w.at (at_in w.layout w.left w.at c.requires).1, c.requires.charted.size)

-- the treads that are read are those of the letter's edge
read : (c : After-slot_of-slot) → get_or c.args.self.now.left c.slot_of-slot.result 0 ≡ get_or c.args.self.now.left (slot_by c.args.step c.args.self.now.at) 0
read c = ap (λ (i : ℕ). get_or c.args.self.now.left i 0) c.slot_of-slot.ensures

pub returns-in-0-clause-value : goal.returns-in-0-clause-value
returns-in-0-clause-value c =
    let w = c.args.self.now in
    letter_none w.layout w.left w.at c.requires c.args.step (omega (arith, read (goal.at.returns-in-0-clause-value c).After-slot_of-slot, c.in-0.is))

pub treads-requires : goal.treads-requires
treads-requires c = let w = c.args.self.now in at_in w.layout w.left w.at c.requires

pub next_of-requires : goal.next_of-requires
next_of-requires c = let w = c.args.self.now in at_in w.layout w.left w.at c.requires

-- the edge has its last tread
last_tread : (c : In-1) → get_or c.args.self.now.left (slot_by c.args.step c.args.self.now.at) 0 ≡ 1
last_tread c = sym (ap (λ (i : ℕ). get_or c.args.self.now.left i 0) c.slot_of-slot.ensures) ∙ c.in-1.is

pub returns-then-treads-eq1-clause-value : goal.returns-then-treads-eq1-clause-value
returns-then-treads-eq1-clause-value c =
    let w = c.args.self.now in
    let one = last_tread (goal.at.returns-then-treads-eq1-clause-value c).In-1 in
    eq-eqb c.treads.result 1 c.if-treads-eq1.true ∙ letter_alone w.layout w.left w.at c.requires c.args.step (omega arith) (sym c.treads.ensures ∙ c.if-treads-eq1.true)

pub reaches_without-requires-clause-point : goal.reaches_without-requires-clause-point
reaches_without-requires-clause-point c =
    let w = c.args.self.now in
    let one = last_tread (goal.at.reaches_without-requires-clause-point c).In-1 in
    omega (arith, c.next_of.ensures, next_range w.layout w.left w.at c.requires c.args.step (omega arith))

pub reaches_without-requires-clause-range : goal.reaches_without-requires-clause-range
reaches_without-requires-clause-range c =
    let w = c.args.self.now in
    let one = last_tread (goal.at.reaches_without-requires-clause-range c).In-1 in
    subst (λ (i : ℕ). Ranged (set w.left i 0) (26 * (w.layout.aisles + 1))) (sym c.slot_of-slot.ensures) (rest_range w.layout w.left w.at c.requires c.args.step 0 (omega arith))

pub returns-else-treads-eq1-clause-value : goal.returns-else-treads-eq1-clause-value
returns-else-treads-eq1-clause-value c =
    let w = c.args.self.now in
    let r = c.reaches_without in
    let one = last_tread (goal.at.returns-else-treads-eq1-clause-value c).In-1 in
    let told : (r.result ≡ true) ↔ AllReached (set w.left (slot_by c.args.step w.at) 0) (next_by c.args.step w.at) = rw (← c.slot_of-slot.ensures, ← c.next_of.ensures) r.ensures.variant in
    letter_last w.layout w.left w.at c.requires c.args.step one r.result told

pub returns-in_default-clause-value : goal.returns-in_default-clause-value
returns-in_default-clause-value c =
    let w = c.args.self.now in
    letter_spare w.layout w.left w.at c.requires c.args.step (omega (arith, read (goal.at.returns-in_default-clause-value c).After-slot_of-slot))
