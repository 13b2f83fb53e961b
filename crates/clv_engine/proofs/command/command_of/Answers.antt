use Rattle.std.proofs.Common.{sym}
use Rattle.clv_engine.proofs.CommandWords.{command_is}
use Rattle.clv_engine.proofs.command.command_of.Goals as goal

pub returns-clause-command : goal.returns-clause-command
returns-clause-command c = command_is _ _ _ _ _ _ _ _ _ c.in-len3.len_at_least c.in-len3.len_below c.name-item.is c.first-item.is c.second-item.is c.as_str.ensures.value c.as_str-first.ensures.value c.as_str-second.ensures.value (sym c.if-not-is_file_word.ensures) (sym c.if-not-is_file_word-2.ensures) c.named.ensures
