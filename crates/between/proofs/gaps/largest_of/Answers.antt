use Rattle.std.proofs.Common.{arith, ◌≡◌, ◌+◌, ◌-◌, ◌≤◌, ℕ, suc, add-one, List, Bool, false, get_or, ap₂, ◌∙◌}
use Rattle.rules.specs.declared.Layout.{Layout}
use Rattle.rules.specs.Store.{back_height}
use Rattle.between.specs.Stops.{front_most, back_most, reaches, wide_at, first_wide, wide_by, first_by, flagged_or, largest_by}
use Rattle.between.proofs.Heights.{filled_all, by_height_agree, same_between}
use Rattle.between.proofs.First.{first_agree}
use Rattle.between.proofs.gaps.largest_of.Goals as goal

-- with the largest distances in the arrays, the first height that is wide by them is that of the definition
by_arrays : (z : Layout) (flags : List Bool) (fronts backs : List ℕ) → ((h : ℕ) → h ≤ z.cells → get_or fronts h 0 ≡ front_most z flags h)
    → ((i : ℕ) → 1 ≤ i → i ≤ back_height z → get_or backs i 0 ≡ back_most z flags i) → (h : ℕ)
    → first_wide z (get_or fronts h 0) backs h ≡ first_by z flags h
unfolding first_wide back_height
by_arrays z flags fronts backs front back h =
    first_agree (wide_at z (get_or fronts h 0) backs h) (wide_by z flags h) (suc h) (suc z.cells - h)
    (λ i low high. ap₂ (reaches z h i) (front h (omega arith)) (back i (omega arith) (omega arith)))

pub returns : goal.returns
unfolding largest_by back_height
returns c =
    let z = c.args.z in
    let flags = c.args.listed in
    let fronts = c.front_widest-fronts in
    let backs = c.back_widest-backs in
    let o = c.loop-h in
    let all : 26 ≤ o.h = omega arith in
    let found : ℕ → ℕ = λ k. first_wide z (get_or fronts.result k 0) backs.result k in
    same_between
    (filled_all (flagged_or flags 0) false o.front o.h all o.invariant.0)
    (rw (add-one z.cells) at (filled_all (flagged_or flags (z.cells + 1)) false o.back o.h all o.invariant.1))
    (filled_all found 0 o.from o.h all o.invariant.2
    ∙ by_height_agree found (first_by z flags) (λ k l. by_arrays z flags fronts.result backs.result fronts.ensures backs.ensures k))
