use Rattle.spv_value.proofs.Steps.{fits_body}
use Rattle.spv_value.proofs.reading.view.Goals as goal

pub view_at-requires : goal.view_at-requires
view_at-requires c = fits_body c.args.module.now.body _ 18 _ _ _ c.as_slice.ensures c.requires
