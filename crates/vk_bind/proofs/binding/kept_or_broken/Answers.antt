use Rattle.vk_bind.proofs.Breaking.{unbroken_is_kept, unbroken}
use Rattle.vk_bind.proofs.binding.kept_or_broken.Goals as goal

pub returns : goal.returns
returns c = record { kept = unbroken_is_kept; broken = unbroken }
