use Rattle.vk_bind.proofs.Sizes.{local_sizes}
use Rattle.vk_bind.proofs.rules.fills_grid.Goals as goal

pub divides-requires : goal.divides-requires
divides-requires c = (local_sizes c.args.launch.now c.requires.readable).x.some

pub divides-requires-then-divides : goal.divides-requires-then-divides
divides-requires-then-divides c = (local_sizes c.args.launch.now c.requires.readable).y.some

pub divides-requires-then-divides-2 : goal.divides-requires-then-divides-2
divides-requires-then-divides-2 c = (local_sizes c.args.launch.now c.requires.readable).z.some
