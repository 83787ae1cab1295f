-- A cell with a line holds a listed article; where no cell has one, the aisle holds none.
use Rattle.std.proofs.Common.{◌≡◌, ◌≤◌, get_or, arith, sym, ◌∙◌, ⊎_elim}
use Rattle.std.specs.Prelude.{None, is_some, true, false}
use native.Mathlib.Nat.{eq-or-lt_of_le}
use Rattle.values.specs.Shelves.{cell_number}
use Rattle.shelves.proofs.Shelving.{holds_some, holds_none}
use Rattle.shelves.proofs.holds_listed.Goals as goal

pub returns-then-is_some : goal.returns-then-is_some
returns-then-is_some c =
    let o = c.loop-c in
    let x = c.args in
    let has : is_some (get_or x.shelf.now.line (cell_number x.j o.c) None) ≡ true = rw (← c.cell_number.ensures.0) (sym c.is_some.ensures ∙ c.if-is_some.true) in
    λ job ok of e l. sym (holds_some ok of x.j c.requires.1 c.requires.2 o.c (omega arith) (omega arith) has)

pub returns : goal.returns
returns c =
    let none_there = c.loop-c.invariant in
    λ job ok of e l. sym (holds_none ok of c.args.j c.requires.1 c.requires.2 (λ k low high. none_there k low (omega arith)))

pub loop-c-preserved : goal.loop-c-preserved
loop-c-preserved c =
    let o = c.loop-c in
    let x = c.args in
    let here : is_some (get_or x.shelf.now.line (cell_number x.j o.c) None) ≡ false = rw (← c.cell_number.ensures.0) (sym c.is_some.ensures ∙ c.if-is_some.false) in
    λ k low high. let upto : k ≤ o.c = omega arith in ⊎_elim (λ p. rw p here) (λ less. o.invariant k low less) (eq-or-lt_of_le upto)
