-- What was read stands behind the bytes that were there.
use Rattle.std.proofs.Common.{arith, length, take, sym, subst, length-take-le, ◌≡◌, ◌-◌}
use Rattle.std.specs.Io.KnownBytes.{Consumes}
use borrow.Rule.Slice.PartMut.{put_mid, mid_len, same_len_mid}
use Rattle.input.proofs.Bytes.{consumes_more, front_more}
use Rattle.input.proofs.read_full.Goals as goal

pub loop-done-preserved : goal.loop-done-preserved
loop-done-preserved g c =
    let xs = c.loop-done.buf in
    let part = c.read.new.buf in
    let done = c.loop-done.done in
    let read = c.in_ok-n.ensures in
    let n = c.in_ok-n.n in
    let room : length part ≡ length xs - done = omega (arith, c.read.auto.buf, mid_len done (length xs) xs (omega arith)) in
    let kept : length (put_mid done (length xs - done) xs part) ≡ length xs = same_len_mid done (length xs - done) xs part c.read.auto.buf in
    let grown = front_more (take done xs) part _ done n (length-take-le done xs (omega arith)) read.bound.0 in
    (omega (arith, kept, room, read.bound.0), subst (Consumes _ _) (sym grown) (consumes_more _ _ _ _ _ c.loop-done.invariant.1 read.bytes.0))
