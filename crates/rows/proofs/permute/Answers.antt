-- One more state is set.
use Rattle.std.proofs.Common.{◌≡◌, arith, subst}
use Rattle.rows.specs.Rows.{Permuted}
use Rattle.rows.proofs.Relaxing.{permuted_none, permuted_one}
use Rattle.rows.proofs.permute.Goals as goal

pub loop-s-init : goal.loop-s-init
loop-s-init c = let p = c.args in permuted_none p.perm.now p.after.now p.steps p.weight

pub loop-s-preserved : goal.loop-s-preserved
loop-s-preserved c =
    let p = c.args in
    let o = c.loop-s in
    permuted_one p.perm.now o.perm c.permute_state.new.perm p.after.now p.steps p.weight o.s (omega arith) o.invariant c.permute_state.ensures

pub returns : goal.returns
returns c =
    let p = c.args in
    let o = c.loop-s in
    let all : o.s ≡ 8 = omega arith in
    subst (λ n. Permuted p.perm.now o.perm p.after.now p.steps p.weight n) all o.invariant
