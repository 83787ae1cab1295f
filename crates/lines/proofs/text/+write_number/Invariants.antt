-- `lines::text::write_number` meets its contract; the measure is the number. Below ten it writes one digit, else the digits of the
-- tenth and behind them the last digit.
use Rattle.lines.proofs.text.+write_number.Given as goal

abbrev pub decreases-write_number : goal.decreases-write_number
decreases-write_number l = l.n
