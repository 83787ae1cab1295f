-- `looked::text::text_of` meets its contract: the job reader's number, or `-` where the stock test was not made.
use native.Mathlib.Omega.{arith}
use mathlib.Core.Path.{ap, ◌∙◌}
use lib.ListN.{length, take}
use Rattle.arrayvec.proofs.ArrayVecLemmas.{items-with_items}
use Rattle.lines.proofs.Sizes.{field_size}
use Rattle.lines.proofs.Writing.{written_front}
use Rattle.looked.proofs.Printing.{few_digits, number_printed, dash_printed}
use Rattle.looked.proofs.text.text_of.Goals as goal

pub returns-then-not-is_tested : goal.returns-then-not-is_tested
returns-then-not-is_tested c =
    c.truncate.ensures.items
    ∙ ap (take c.write_word-count.result) (items-with_items c.from-text.result c.write_word-count.new.sheet (omega (arith, c.write_word-count.auto.sheet, ap length c.as_mut_slice.ensures.value)))
    ∙ written_front c.write_word-count.ensures
    ∙ dash_printed c.args.job.now c.read_job-read.result c.read_job-read.ensures.value c.is_tested.result c.is_tested.ensures c.if-not-is_tested.true

pub write_field-count-requires : goal.write_field-count-requires
write_field-count-requires c =
    omega (arith, field_size 10 c.read_job-read.result.looked, few_digits c.args.job.now c.read_job-read.result c.read_job-read.ensures.value, ap length c.as_mut_slice-2.ensures.value, ap length c.from-text.ensures.0)

pub returns : goal.returns
returns c =
    c.truncate-2.ensures.items
    ∙ ap (take c.write_field-count.result) (items-with_items c.from-text.result c.write_field-count.new.sheet (omega (arith, c.write_field-count.auto.sheet, ap length c.as_mut_slice-2.ensures.value)))
    ∙ written_front c.write_field-count.ensures
    ∙ number_printed c.args.job.now c.read_job-read.result c.read_job-read.ensures.value c.is_tested.result c.is_tested.ensures c.if-not-is_tested.false
