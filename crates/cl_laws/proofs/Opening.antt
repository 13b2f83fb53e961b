-- Rules over operands of any number, and over operands that stay as they are, taken apart.
use Rattle.std.proofs.Common.{◌≡◌, List, [], ◌∷◌, refl, sym, subst, true, true≢false, Option, Some}
use Rattle.cl_types.specs.declared.types.ClType.{ClType}
use Rattle.cl_types.specs.declared.types.TypeId.{TypeId}
use Rattle.cl_types.specs.declared.space.Space.{Space}
use Rattle.cl_tree.specs.declared.expression.Facts.{Facts}
use Rattle.cl_tree.specs.declared.shape.Shape.{Shape}
use Rattle.cl_tree.specs.declared.shape.Shape.TheVariants as shape
use Rattle.cl_tree.specs.Facts.{Lists, shape_at, points_into, converts_to}
use Rattle.cl_tree.specs.Shapes.{shape_of, is_pointer}
use Rattle.cl_rules.specs.declared.rule.Made.{Made}
use Rattle.cl_rules.specs.declared.rule.Operand.{Operand}
use Rattle.cl_rules.specs.declared.rule.Want.{Want}
use Rattle.cl_rules.specs.declared.rule.Want.TheVariants as want
use Rattle.cl_rules.specs.Operands.{seen}
use Rattle.cl_rules.specs.Calls.{alike_spaces}
use Rattle.cl_make.specs.Ready.{IsReadyOperand}
use Rattle.cl_make.specs.Wanted.{IsWanted}
use Rattle.cl_laws.specs.Fitting.{node_facts, IsAfter, AreAfter, none, more, RuleFits}
use Rattle.cl_laws.proofs.Fitted.{after_own, fits_one, fits_two, into_same, leads, seen_leads}

-- ---- operands

abbrev pub facts_of : Operand → Facts
facts_of o = o.facts

-- what holds of an operand's shape holds of its type's
pub shape_here : (cs : List ClType) (P : Shape → Type 0) (o : Operand) → IsReadyOperand cs o → P o.shape → P (shape_of cs o.facts.ty)
shape_here cs P o r h = subst P r.shape h

-- ---- operands behind their conversions

pub after_first : (l : Lists) (w : Want) (ws : List Want) (f : Facts) (fs gs : List Facts) → AreAfter l (w ∷ ws) (f ∷ fs) gs → (g : Facts) × (rest : List Facts) × (gs ≡ g ∷ rest) × IsAfter l w f g × AreAfter l ws fs rest
after_first l w ws f fs gs (more w0 ws0 f0 g fs0 rest h r) = (g, rest, refl, h, r)

pub after_none : (l : Lists) (gs : List Facts) → AreAfter l [] [] gs → gs ≡ []
after_none l gs none = refl

-- ---- nodes over operands that stay

abbrev Is : Lists → Made → TypeId → List Facts → Type 0
Is l m ty fs = node_facts m.head l ty fs ≡ Some (record { ty = ty; lies = m.lies; component = m.component })

pub own_fits_one : (l : Lists) (m : Made) (f : Facts) → m.wants ≡ want.Own ∷ [] → ((ty : TypeId) → IsWanted l.types m.gives ty → Is l m ty (f ∷ [])) → RuleFits l m (f ∷ [])
own_fits_one l m f e h = fits_one l m want.Own f e tt (λ x ty i k. subst (λ z. Is l m ty (z ∷ [])) (after_own l f x i) (h ty k))

pub own_fits_two : (l : Lists) (m : Made) (f g : Facts) → m.wants ≡ want.Own ∷ want.Own ∷ [] → ((ty : TypeId) → IsWanted l.types m.gives ty → Is l m ty (f ∷ g ∷ [])) → RuleFits l m (f ∷ g ∷ [])
own_fits_two l m f g e h =
    fits_two l m want.Own want.Own f g e tt tt
    (λ x y ty i j k. subst (λ z. Is l m ty (z ∷ y ∷ [])) (after_own l f x i) (subst (λ z. Is l m ty (f ∷ z ∷ [])) (after_own l g y j) (h ty k)))

-- ---- conversions to pointers

alike_leads : (p q : Shape) (lies : Option Space) → alike_spaces p q ≡ true → leads q lies ≡ true → leads p lies ≡ true
alike_leads (shape.Pointer s to ro re) (shape.Pointer z to2 ro2 re2) lies e h = into_same s z lies e h
alike_leads p q lies e h = absurd (true≢false (sym e))

leads_converts : (l : Lists) (f : Facts) (p : Shape) (ty : TypeId) → leads p (points_into (shape_at l f) f.lies) ≡ true → converts_to l f ty p ≡ true
leads_converts l f (shape.Pointer s to ro re) ty h = h
leads_converts l f p ty h = absurd (true≢false (sym h))

-- an operand that is or stands for a pointer converts to each pointer into its address space
pub alike_converts : (l : Lists) (o : Operand) (p : Shape) (ty : TypeId) → IsReadyOperand l.types o → is_pointer (seen o) ≡ true → alike_spaces p (seen o) ≡ true → converts_to l o.facts ty p ≡ true
alike_converts l o p ty r h e = leads_converts l o.facts p ty (alike_leads p (seen o) (points_into (shape_at l o.facts) o.facts.lies) e (seen_leads l o r h))
