-- `sheets::Sheet::size` meets its contract: the byte counts of the sections add up.
use Rattle.std.proofs.Common.{arith, ◌≡◌, ◌≤◌, ap, length, take, length-append, length-take}
use Rattle.rules.specs.JobFile.{header}
use Rattle.rules.specs.Sheet.{letter_t, total_text}
use Rattle.sheets.specs.Parts.{sheet_of_parts}
use Rattle.sheets.proofs.SheetLaws.{total_section}
use Rattle.sheets.proofs.Sheet.size.Goals as goal

pub returns : goal.returns
unfolding sheet_of_parts
returns c =
    let t = rw (c.total.ensures, total_section) at c.section_size.ensures in
    let a = rw c.actions.ensures at c.section_size-2.ensures in
    let k = rw (c.saturating_sub.ensures, c.passages.ensures) at c.section_size-3.ensures in
    let p = rw c.as_slice.ensures.value at c.section_size-4.ensures in
    let w = rw c.as_slice-2.ensures.value at c.section_size-5.ensures in
    -- the T section has one line, the sections A and C at most 16
    let total : length c.total.result ≡ 1 = ap length c.total.ensures in
    let aisles : length (take c.args.self.now.plan.now.aisles c.actions.result) ≤ 16 =
    omega (arith, length-take c.args.self.now.plan.now.aisles c.actions.result, c.args.self.now.plan.now.fits)
    in
    let behind : length (take c.saturating_sub.result c.passages.result) ≤ 15 =
    omega (arith, length-take c.saturating_sub.result c.passages.result, c.args.self.now.plan.now.fits, c.saturating_sub.ensures)
    in
    let first = length-append (header letter_t 1) (total_text c.args.self.now.length c.args.self.now.policy) in
    record {
      count = simp length-append (omega (arith, t.count, a.count, k.count, p.count, w.count, first));
      bound =
          omega (
            arith,
            total,
            aisles,
            behind,
            c.as_slice.ensures.fits,
            c.as_slice-2.ensures.fits,
            c.section_size.ensures.bound,
            c.section_size-2.ensures.bound,
            c.section_size-3.ensures.bound,
            c.section_size-4.ensures.bound,
            c.section_size-5.ensures.bound,
          );
    }
