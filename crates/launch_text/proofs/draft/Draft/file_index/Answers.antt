use Rattle.std.proofs.Common.{sym, ap, ◌∙◌}
use Rattle.std.specs.List.{position_or_len}
use Rattle.std.specs.Str.{bytes_eq}
use Rattle.launch_text.proofs.Files.{new_file, old_file, new_place, files_are}
use Rattle.launch_text.proofs.draft.Draft.file_index.Goals as goal
use Rattle.launch_text.proofs.draft.Draft.file_index.Goals.{then-index-len+in_ok-push, else-index-len}

pub returns-clause-index : goal.returns-clause-index
returns-clause-index c = elim c.if-index-len.branch [
  | then-index-len+in_ok-push w ↦ new_place _ _ _ _ _ c.place_of-index.ensures.place w.if-index-len.true c.len.ensures w.in_ok-push.ensures.ok ∙ ap (λ d. position_or_len (bytes_eq c.args.name) d.files) (sym w.self-is)
  | else-index-len w ↦ c.place_of-index.ensures.place ∙ ap (λ d. position_or_len (bytes_eq c.args.name) d.files) (sym w.self-is)
]

pub returns-clause-added : goal.returns-clause-added
returns-clause-added c = elim c.if-index-len.branch [
  | then-index-len+in_ok-push w ↦ files_are c.args.self.now _ _ _ w.self-is (new_file _ _ _ _ _ c.place_of-index.ensures.place w.if-index-len.true c.len.ensures w.in_ok-push.ensures.ok)
  | else-index-len w ↦ files_are c.args.self.now _ _ _ w.self-is (old_file _ _ _ _ c.place_of-index.ensures.place w.if-index-len.false c.len.ensures)
]
