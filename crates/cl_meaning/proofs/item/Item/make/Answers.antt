use Rattle.std.proofs.Common.{◌≡◌, ℕ, List, sym, subst}
use Rattle.std.specs.Prelude.{Result, Ok, Err, IfOk}
use Rattle.cl_types.specs.declared.types.ClType.{ClType}
use Rattle.cl_types.specs.declared.operator.BinOp.{BinOp}
use Rattle.cl_builtins.specs.declared.kind.Gentype.{Gentype}
use Rattle.cl_meaning.specs.declared.did.Did.{Did}
use Rattle.cl_meaning.specs.declared.item.Item.{Item}
use Rattle.cl_meaning.specs.declared.item.Surroundings.{Surroundings}
use Rattle.cl_meaning.specs.declared.task.Act.{Act}
use Rattle.cl_meaning.specs.declared.task.Act.TheVariants.{Component}
use Rattle.cl_meaning.specs.Effects.{component_effect, effect_of}
use Rattle.cl_meaning.specs.Views.{Comes, act_by, item_by, surroundings_by}
use Rattle.cl_meaning.proofs.item.Item.make.Goals as goal

-- a component is made alike for each table of types
made : {E : Type 0} (s : Surroundings) (a : Act) (op : BinOp) (t : Gentype) (k : ℕ) (old new : Item) (r : Result Did E) → a ≡ Component op t k → IfOk r (λ did. (cs : List ClType) → Comes (component_effect op t k (item_by cs old) old.stack) did (item_by cs new)) → IfOk r (λ did. Comes (effect_of (surroundings_by s) (act_by a) (item_by s.types.now old)) did (item_by s.types.now new))
made s a op t k old new (Ok did) is h = subst (λ (z : Act). Comes (effect_of (surroundings_by s) (act_by z) (item_by s.types.now old)) did (item_by s.types.now new)) (sym is) (h s.types.now)
made s a op t k old new (Err e) is h = h

pub returns-in-Component : goal.returns-in-Component
returns-in-Component c = made c.args.s c.args.act c.in-Component.op c.in-Component.operands c.in-Component.k c.args.self.now c.component.new.self c.component.result c.in-Component.is c.component.ensures
