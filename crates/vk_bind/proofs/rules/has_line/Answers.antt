use Rattle.std.proofs.Common.{sym}
use Rattle.vk_bind.proofs.rules.has_line.Goals as goal

pub returns-in-Some : goal.returns-in-Some
returns-in-Some c = (_, sym c.in-Some.ensures)
