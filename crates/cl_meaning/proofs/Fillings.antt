-- Parts of initialiser lists, filled one after another.
use Rattle.std.proofs.Common.{◌≡◌, ◌≢◌, ℕ, zero, suc, ◌+◌, ◌-◌, ◌<◌, ◌≤◌, Bool, true, false, true≢false, Some, None, List, [], ◌∷◌, ◌++◌, length, get_or, drop, replicate, refl, sym, ap, ◌∙◌, subst, arith, add-one, drop-cons, append_assoc}
use Rattle.std.specs.Prelude.{nat_eq, if◌then◌else◌}
use Rattle.std.proofs.lemmas.Bool.{eqb-true, eqb-false}
use Rattle.std.proofs.lemmas.List.{drop_all, append-nil}
use Rattle.cl_types.specs.declared.types.ClType.{ClType}
use Rattle.cl_types.specs.declared.types.Member.{Member}
use Rattle.cl_types.specs.declared.types.TypeId.{TypeId}
use Rattle.cl_tree.specs.declared.shape.Shape.{Shape}
use Rattle.cl_tree.specs.declared.shape.Shape.TheVariants as shape
use Rattle.cl_tree.specs.Shapes.{shape_of, members_of, is_array, is_struct}
use Rattle.cl_common.specs.Operators.{Given, Filled, and_then, fill_elements, fill_members, fill_inside, fill_part, given}
use Rattle.cl_common.specs.Types.{count_at}
use Rattle.cl_meaning.specs.Initialisers.{IsFilled, next_type, taken}

-- what is left makes the whole
pub record Going (old : List ℕ) (whole : Filled) (so_far : List ℕ) (rest : Filled) : Type 0 where
  pub numbers : so_far ++ rest.patterns ≡ old ++ whole.patterns
  pub operands : rest.left ≡ whole.left

then_on : (old so_far new : List ℕ) (whole first : Filled) (hs : List Given) (rest : List Given → Filled) → Going old whole so_far (and_then first rest) → IsFilled so_far first new hs → Going old whole new (rest hs)
then_on old so_far new whole first hs rest go is = record {
  numbers = ap (λ z. z ++ (rest hs).patterns) is.numbers ∙ append_assoc so_far first.patterns (rest hs).patterns ∙ ap (λ z. so_far ++ (first.patterns ++ (rest z).patterns)) is.operands ∙ go.numbers;
  operands = ap (λ z. (rest z).left) is.operands ∙ go.operands;
}

pub elements_begin : (one : List Given → Filled) (n : ℕ) (gs : List Given) (old : List ℕ) → Going old (fill_elements one n gs) old (fill_elements one (n - 0) gs)
elements_begin one n gs old =
    let e : n ≡ n - 0 = omega arith in
    record { numbers = ap (λ m. old ++ (fill_elements one m gs).patterns) (sym e); operands = ap (λ m. (fill_elements one m gs).left) (sym e) }

pub elements_more : (one : List Given → Filled) (n k : ℕ) (gs hs : List Given) (old so_far new : List ℕ) (whole : Filled) → Going old whole so_far (fill_elements one (n - k) gs) → k < n → IsFilled so_far (one gs) new hs → Going old whole new (fill_elements one (n - (k + 1)) hs)
elements_more one n k gs hs old so_far new whole go h is =
    let e : n - k ≡ suc (n - (k + 1)) = omega arith in
    then_on old so_far new whole (one gs) hs (fill_elements one (n - (k + 1))) (subst (λ m. Going old whole so_far (fill_elements one m gs)) e go) is

at_end : (old so_far : List ℕ) (whole : Filled) (gs : List Given) → Going old whole so_far (record { patterns = []; left = gs }) → IsFilled old whole so_far gs
at_end old so_far whole gs go = record { numbers = sym (append-nil so_far) ∙ go.numbers; operands = go.operands }

pub elements_end : (one : List Given → Filled) (n k : ℕ) (gs : List Given) (old so_far : List ℕ) (whole : Filled) → Going old whole so_far (fill_elements one (n - k) gs) → n ≤ k → IsFilled old whole so_far gs
elements_end one n k gs old so_far whole go h =
    let e : n - k ≡ 0 = omega arith in
    at_end old so_far whole gs (subst (λ m. Going old whole so_far (fill_elements one m gs)) e go)

pub members_begin : (one : TypeId → List Given → Filled) (ms : List Member) (gs : List Given) (old : List ℕ) → Going old (fill_members one ms gs) old (fill_members one (drop 0 ms) gs)
members_begin one ms gs old = record { numbers = refl; operands = refl }

first_of : {A : Type 0} (xs : List A) (at : ℕ) (x : A) → at < length xs → x ≡ get_or xs at x → drop at xs ≡ x ∷ drop (at + 1) xs
first_of xs at x h e = drop-cons xs at x h ∙ ap (λ z. z ∷ drop (suc at) xs) (sym e) ∙ ap (λ n. x ∷ drop n xs) (sym (add-one at))

pub members_more : (one : TypeId → List Given → Filled) (ms : List Member) (k : ℕ) (m : Member) (gs hs : List Given) (old so_far new : List ℕ) (whole : Filled) → Going old whole so_far (fill_members one (drop k ms) gs) → k < length ms → m ≡ get_or ms k m → IsFilled so_far (one m.ty gs) new hs → Going old whole new (fill_members one (drop (k + 1) ms) hs)
members_more one ms k m gs hs old so_far new whole go h e is =
    then_on old so_far new whole (one m.ty gs) hs (fill_members one (drop (k + 1) ms)) (subst (λ l. Going old whole so_far (fill_members one l gs)) (first_of ms k m h e) go) is

pub members_end : (one : TypeId → List Given → Filled) (ms : List Member) (k : ℕ) (gs : List Given) (old so_far : List ℕ) (whole : Filled) → Going old whole so_far (fill_members one (drop k ms) gs) → length ms ≤ k → IsFilled old whole so_far gs
members_end one ms k gs old so_far whole go h =
    at_end old so_far whole gs (subst (λ l. Going old whole so_far (fill_members one l gs)) (drop_all k ms h) go)

pub part_none : (deep : ℕ) (cs : List ClType) (t : TypeId) (gs hs : List Given) (old new : List ℕ) (count : ℕ) → None ≡ next_type gs → count ≡ count_at cs t → IsFilled old (record { patterns = replicate count 0; left = gs }) new hs → IsFilled old (fill_part deep cs t gs) new hs
part_none deep cs t [] hs old new count e c is = record { numbers = is.numbers ∙ ap (λ n. old ++ replicate n 0) c; operands = is.operands }
part_none deep cs t (g ∷ gs) hs old new count e c is = absurd (cc)

pub part_zero : (deep : ℕ) (cs : List ClType) (t ty : TypeId) (gs hs : List Given) (old new : List ℕ) → Some ty ≡ next_type gs → deep ≡ 0 → IsFilled old (taken gs) new hs → IsFilled old (fill_part deep cs t gs) new hs
part_zero deep cs t ty [] hs old new e z is = absurd (cc)
part_zero zero cs t ty (g ∷ gs) hs old new e z is = is
part_zero (suc deep) cs t ty (g ∷ gs) hs old new e z is = absurd (omega arith)

pub part_same : (deep : ℕ) (cs : List ClType) (t ty : TypeId) (gs hs : List Given) (old new : List ℕ) → Some ty ≡ next_type gs → t.0 ≡ ty.0 → IsFilled old (taken gs) new hs → IsFilled old (fill_part deep cs t gs) new hs
part_same deep cs t ty [] hs old new e s is = absurd (cc)
part_same zero cs t ty (g ∷ gs) hs old new e s is = is
part_same (suc deep) cs t ty (g ∷ gs) hs old new e s is = by (nat_eq t.0 g.ty.0) refl
  where
    by : (b : Bool) → nat_eq t.0 g.ty.0 ≡ b → IsFilled old (fill_part (suc deep) cs t (g ∷ gs)) new hs
    by true q = subst (λ b. IsFilled old (if b then record { patterns = g.patterns; left = gs } else fill_inside (fill_part deep cs) cs t (shape_of cs t) (g ∷ gs)) new hs) (sym q) is
    by false q = let same : ty ≡ g.ty = cc in absurd (eqb-false t.0 g.ty.0 q (s ∙ ap (λ z. z.0) same))

pub part_inside : (deep : ℕ) (cs : List ClType) (t ty : TypeId) (gs hs : List Given) (old new : List ℕ) → Some ty ≡ next_type gs → 0 < deep → t.0 ≢ ty.0 → IsFilled old (fill_inside (fill_part (deep - 1) cs) cs t (shape_of cs t) gs) new hs → IsFilled old (fill_part deep cs t gs) new hs
part_inside deep cs t ty [] hs old new e z s is = absurd (cc)
part_inside zero cs t ty (g ∷ gs) hs old new e z s is = absurd (omega arith)
part_inside (suc deep) cs t ty (g ∷ gs) hs old new e z s is = by (nat_eq t.0 g.ty.0) refl
  where
    less : suc deep - 1 ≡ deep
    less = omega arith

    inner : IsFilled old (fill_inside (fill_part deep cs) cs t (shape_of cs t) (g ∷ gs)) new hs
    inner = subst (λ d. IsFilled old (fill_inside (fill_part d cs) cs t (shape_of cs t) (g ∷ gs)) new hs) less is

    by : (b : Bool) → nat_eq t.0 g.ty.0 ≡ b → IsFilled old (fill_part (suc deep) cs t (g ∷ gs)) new hs
    by true q = let same : ty ≡ g.ty = cc in absurd (s (eqb-true t.0 g.ty.0 q ∙ ap (λ z. z.0) (sym same)))
    by false q = subst (λ b. IsFilled old (if b then record { patterns = g.patterns; left = gs } else fill_inside (fill_part deep cs) cs t (shape_of cs t) (g ∷ gs)) new hs) (sym q) inner

pub inside_array : (one : TypeId → List Given → Filled) (cs : List ClType) (t elem : TypeId) (len : ℕ) (nested : Bool) (s : Shape) (gs hs : List Given) (old new : List ℕ) → s ≡ shape_of cs t → s ≡ shape.Array elem len nested → IsFilled old (fill_elements (one elem) len gs) new hs → IsFilled old (fill_inside one cs t (shape_of cs t) gs) new hs
inside_array one cs t elem len nested s gs hs old new e a is = subst (λ z. IsFilled old (fill_inside one cs t z gs) new hs) (sym a ∙ e) is

pub inside_struct : (one : TypeId → List Given → Filled) (cs : List ClType) (t : TypeId) (s : Shape) (gs hs : List Given) (old new : List ℕ) → s ≡ shape_of cs t → s ≡ shape.Struct → IsFilled old (fill_members one (members_of cs t) gs) new hs → IsFilled old (fill_inside one cs t (shape_of cs t) gs) new hs
inside_struct one cs t s gs hs old new e a is = subst (λ z. IsFilled old (fill_inside one cs t z gs) new hs) (sym a ∙ e) is

pub inside_other : (one : TypeId → List Given → Filled) (cs : List ClType) (t : TypeId) (s : Shape) (gs hs : List Given) (old new : List ℕ) → s ≡ shape_of cs t → is_array s ≡ false → is_struct s ≡ false → IsFilled old (taken gs) new hs → IsFilled old (fill_inside one cs t (shape_of cs t) gs) new hs
inside_other one cs t s gs hs old new e a b is = subst (λ z. IsFilled old (fill_inside one cs t z gs) new hs) e (by s gs a b is)
  where
    by : (s : Shape) (gs : List Given) → is_array s ≡ false → is_struct s ≡ false → IsFilled old (taken gs) new hs → IsFilled old (fill_inside one cs t s gs) new hs
    by shape.Void [] a b is = is
    by shape.Void (g ∷ gs) a b is = is
    by shape.Bool [] a b is = is
    by shape.Bool (g ∷ gs) a b is = is
    by (shape.Integers ty) [] a b is = is
    by (shape.Integers ty) (g ∷ gs) a b is = is
    by (shape.Array elem len nested) gs a b is = absurd (true≢false a)
    by shape.Struct gs a b is = absurd (true≢false b)
    by (shape.Pointer space to readonly restricted) [] a b is = is
    by (shape.Pointer space to readonly restricted) (g ∷ gs) a b is = is

pub ruleset fillings = (elements_begin, elements_more, elements_end, members_begin, members_more, members_end, part_none, part_zero, part_same, part_inside, inside_array, inside_struct, inside_other)

none_given : (ts : List TypeId) (vs : List (List ℕ)) → length vs < 1 → given ts vs ≡ []
none_given [] vs h = refl
none_given (t ∷ ts) [] h = refl
none_given (t ∷ ts) (v ∷ vs) h = absurd (omega arith)

untyped : (ts : List TypeId) (vs : List (List ℕ)) → length ts < 1 → given ts vs ≡ []
untyped [] vs h = refl
untyped (t ∷ ts) vs h = absurd (omega arith)

pub no_type : (ts : List TypeId) (vs : List (List ℕ)) → length ts < 1 → None ≡ next_type (given ts vs)
no_type ts vs h = sym (ap next_type (untyped ts vs h))

pub no_value : (ts : List TypeId) (vs : List (List ℕ)) → length vs < 1 → None ≡ next_type (given ts vs)
no_value ts vs h = sym (ap next_type (none_given ts vs h))

none_taken : (old : List ℕ) (gs : List Given) → gs ≡ [] → IsFilled old (taken gs) old gs
none_taken old [] e = record { numbers = sym (append-nil old); operands = refl }
none_taken old (g ∷ gs) e = absurd (cc)

pub no_type_taken : (old : List ℕ) (ts : List TypeId) (vs : List (List ℕ)) → length ts < 1 → IsFilled old (taken (given ts vs)) old (given ts vs)
no_type_taken old ts vs h = none_taken old (given ts vs) (untyped ts vs h)

pub no_value_taken : (old : List ℕ) (ts : List TypeId) (vs : List (List ℕ)) → length vs < 1 → IsFilled old (taken (given ts vs)) old (given ts vs)
no_value_taken old ts vs h = none_taken old (given ts vs) (none_given ts vs h)

pub ruleset operands = (no_type, no_value, no_type_taken, no_value_taken)
