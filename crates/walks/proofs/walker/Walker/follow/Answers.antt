use Rattle.std.proofs.Common.{◌≡◌, ◌<◌, get_or, refl, ap, ◌∙◌, arith}
use Rattle.walks.specs.declared.walker.Walker.{Walker}
use Rattle.flood.specs.Points.{depot_number, next_by}
use Rattle.walks.specs.Letters.{slot_by}
use Rattle.walks.proofs.Stepping.{at_in, letter_left, none_left, none_there, slot_below}
use Rattle.walks.proofs.Onward.{going_from, going_room, going_next, going_less, going_over}
use Rattle.walks.proofs.walker.Walker.follow.Goals as goal
use Rattle.walks.proofs.walker.Walker.follow.Goals.{After-slot_of}

pub loop-self-init : goal.loop-self-init
loop-self-init c = let w = c.args.self.now in (refl, rw c.new-steps.ensures (going_from w.layout w.left w.at c.requires.0 c.requires.1))

pub treads-requires : goal.treads-requires
treads-requires c = let w = c.loop-self.self in at_in w.layout w.left w.at c.loop-self.invariant.1.walkable

pub next_letter-step-requires : goal.next_letter-step-requires
next_letter-step-requires c =
    (c.loop-self.invariant.1.walkable, omega (arith, c.treads.ensures, c.loop-self-test.true))

pub slot_of-requires : goal.slot_of-requires
slot_of-requires c = let w = c.loop-self.self in rw c.next_letter-step.ensures.unchanged (at_in w.layout w.left w.at c.loop-self.invariant.1.walkable)

-- the step's edge, by the place where the walk was
step_slot : (c : After-slot_of) → c.slot_of.result ≡ slot_by c.next_letter-step.result c.loop-self.self.at
step_slot c = c.slot_of.ensures ∙ ap (λ (v : Walker). slot_by c.next_letter-step.result v.at) c.next_letter-step.ensures.unchanged

-- the edge's place is in the list, and it is left
slot_in : (c : After-slot_of) → (c.slot_of.result < 884) × (0 < get_or c.next_letter-step.new.self.left c.slot_of.result 0)
slot_in c =
    let w : Walker = c.loop-self.self in
    let walkable = c.loop-self.invariant.1.walkable in
    let step = c.next_letter-step in (
      omega (arith, step_slot c, slot_below step.result w.at (at_in w.layout w.left w.at walkable).1),
      rw (step_slot c, step.ensures.unchanged) (letter_left w.layout w.left w.at walkable step.result step.ensures.at_value),
    )

pub bounds-self-slot_of : goal.bounds-self-slot_of
bounds-self-slot_of c = (slot_in (goal.at.bounds-self-slot_of c).After-slot_of).0

pub overflow_sub-self : goal.overflow_sub-self
overflow_sub-self c = omega (arith, slot_in (goal.at.overflow_sub-self c).After-slot_of)

pub bounds-self-slot_of-in-loop-self : goal.bounds-self-slot_of-in-loop-self
bounds-self-slot_of-in-loop-self c = (slot_in (goal.at.bounds-self-slot_of-in-loop-self c).After-slot_of).0

pub next_of-self-requires : goal.next_of-self-requires
next_of-self-requires c = let w = c.loop-self.self in rw c.next_letter-step.ensures.unchanged (at_in w.layout w.left w.at c.loop-self.invariant.1.walkable)

pub push-requires : goal.push-requires
push-requires c =
    let w = c.loop-self.self in
    let step = c.next_letter-step in
    (omega arith, going_room w.layout w.left w.at c.loop-self.invariant.1 step.result step.ensures.at_value)

pub loop-self-preserved : goal.loop-self-preserved
loop-self-preserved c =
    let w = c.loop-self.self in
    let step = c.next_letter-step in
    let same = step.ensures.unchanged in
    let next = c.next_of-self.ensures ∙ ap (λ (v : Walker). next_by step.result v.at) same in
    let layout = ap (λ (v : Walker). v.layout) same in (
      layout ∙ c.loop-self.invariant.0,
      rw layout
          (going_next w.layout w.left w.at c.loop-self.invariant.1 step.result step.ensures.at_value
          (ap (λ (v : Walker). v.left) same) (step_slot (goal.at.loop-self-preserved c).After-slot_of) next c.push.ensures.items),
    )

pub loop-self-smaller : goal.loop-self-smaller
loop-self-smaller c =
    let w = c.loop-self.self in
    let step = c.next_letter-step in
    let same = step.ensures.unchanged in
    rw (ap (λ (v : Walker). v.layout) same)
    (going_less w.layout w.left w.at c.loop-self.invariant.1 step.result step.ensures.at_value (ap (λ (v : Walker). v.left) same) (step_slot (goal.at.loop-self-smaller c).After-slot_of))

pub returns-clause-layout_unchanged : goal.returns-clause-layout_unchanged
returns-clause-layout_unchanged c = c.loop-self.invariant.0

-- no tread is left at the point
pub returns-clause-steps : goal.returns-clause-steps
returns-clause-steps c =
    let w = c.loop-self.self in
    going_over w.layout w.left w.at c.loop-self.invariant.1 (omega (arith, c.treads.ensures, c.loop-self-test.false))

pub returns-clause-left_after : goal.returns-clause-left_after
returns-clause-left_after c =
    let w = c.loop-self.self in
    none_left w.layout w.left w.at c.loop-self.invariant.1.walkable (omega (arith, c.treads.ensures, c.loop-self-test.false))

pub returns-clause-at_after : goal.returns-clause-at_after
returns-clause-at_after c =
    let w = c.loop-self.self in
    none_there w.layout w.left w.at c.loop-self.invariant.1.walkable (omega (arith, c.treads.ensures, c.loop-self-test.false)) ∙ ap depot_number c.loop-self.invariant.0
