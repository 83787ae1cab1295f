-- The line of the T section is written part by part: the length, the policy's word, the line feed.
use Rattle.rules.specs.Sheet.{total_text}
use Rattle.lines.proofs.Writing.{first_room, going_first, next_room, going_on, last_room, going_last}
use Rattle.lines.proofs.TotalLine.write.Goals as goal

pub write_field-at-requires : goal.write_field-at-requires
unfolding total_text
write_field-at-requires c = first_room _ _ c.requires

pub write_word-at-requires : goal.write_word-at-requires
unfolding total_text
write_word-at-requires c = rw c.policy_word.ensures.word (next_room _ _ (going_first _ _ c.requires c.write_field-at.ensures))

pub bounds-sheet-at : goal.bounds-sheet-at
unfolding total_text
bounds-sheet-at c =
    last_room (going_on _ _ (going_first _ _ c.requires c.write_field-at.ensures) (rw c.policy_word.ensures.word at c.write_word-at.ensures))

pub returns : goal.returns
unfolding total_text
returns c =
    going_last (going_on _ _ (going_first _ _ c.requires c.write_field-at.ensures) (rw c.policy_word.ensures.word at c.write_word-at.ensures))
