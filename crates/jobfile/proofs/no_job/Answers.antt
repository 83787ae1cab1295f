-- Blanks in every place.
use Rattle.std.proofs.Common.{◌≡◌, refl}
use Rattle.values.specs.Values.{no_line}
use Rattle.reading.specs.Kept.{no_record, job_value}
use Rattle.reading.proofs.Storing.{padded_none}
use Rattle.jobfile.specs.Answer.{no_job}
use Rattle.jobfile.proofs.no_job.Goals as goal

pub returns : goal.returns
unfolding no_job job_value
returns c =
    let s = c.default.ensures in
    let l = c.default-2.ensures in
    let record_blank : c.default.result ≡ no_record = λ i. record { aisle = s.0 i; cell = s.1.0 i; article = s.1.1.0 i; quantity = s.1.1.1 i } in
    let line_blank : c.default-2.result ≡ no_line = λ i. record { article = l.0 i; quantity = l.1 i } in
    rw (record_blank, line_blank, ← padded_none 384 no_record, ← padded_none 8 no_line) refl
