-- The words of types, and structs with their members.
use Rattle.std.proofs.Common.{◌≡◌, ℕ, ◌<◌, ◌≤◌, Bool, true, false, if◌then◌else◌, List, [], ◌∷◌, ◌++◌, length, Option, Some, None, slice_get, Result, Ok, refl, sym, ap, ◌∙◌, subst, arith, true≢false, ltb-true, ltb-false, nat_lt, ◌&&◌, ◌||◌, nat_eq}
use Rattle.std.specs.Prelude.{IfOk, OnErr}
use Rattle.std.specs.Global.{Vec}
use Rattle.std.proofs.lemmas.List.{append-nil}
use Rattle.std.proofs.lemmas.Bool.{and_from}
use Rattle.clv_place.specs.declared.place.Place.{Place}
use Rattle.clv_place.specs.declared.stop.Stop.{Stop}
use Rattle.clv_place.specs.declared.stop.Stop.TheVariants.{Out, NoMemory}
use Rattle.cl_types.specs.declared.types.ClType.{ClType}
use Rattle.cl_types.specs.declared.types.ClType.TheVariants as ty
use Rattle.cl_types.specs.declared.types.Member.{Member}
use Rattle.cl_types.specs.declared.types.TypeId.{TypeId}
use Rattle.cl_types.specs.declared.stop.TypeStop.{TypeStop}
use Rattle.cl_types.specs.declared.stop.TypeStop.TheVariants.{TooLarge, TooDeep}
use Rattle.cl_types.specs.Layout.{TypeTree, Struct, more as one_more, size_of, depth_of, is_width, is_count}
use Rattle.cl_types.specs.Table.{IsTable, IsBuilt, AreSized, is_sized, Interned, IsOver, IsWithin, trees, trees_at, tree_of, tree_from}
use Rattle.cl_builtins.specs.Found.{IsKnown, IsGrown}
use Rattle.cl_builtins.specs.Tables.{IsAt}
use Rattle.cl_builtins.proofs.Growth.{grown_twice, grown_known, at_known, interned_at}
use Rattle.cl_ast.specs.declared.expression.Base.{Base}
use Rattle.cl_ast.specs.declared.expression.Base.TheVariants as base
use Rattle.cl_ast.specs.declared.expression.Field.{Field}
use Rattle.cl_tree.specs.declared.shape.Shape.{Shape}
use Rattle.cl_tree.specs.declared.shape.Shape.TheVariants as shape
use Rattle.cl_tree.specs.Shapes.{shape_of, shape_in}
use Rattle.cl_tree.specs.Units.{is_object, are_objects}
use Rattle.cl_scope.specs.declared.scope.Declared.{Declared}
use Rattle.cl_scope.specs.declared.scope.DeclaredKind.{DeclaredKind}
use Rattle.cl_scope.specs.declared.scope.DeclaredKind.TheVariants as kind
use Rattle.cl_scope.specs.Names.{Env, find, newest, is_called}
use Rattle.cl_scope.specs.Scopes.{AreKnownIn, IsKnownEnv}
use Rattle.cl_rules.specs.declared.rule.Qualified.{Qualified}
use Rattle.cl_rules.specs.declared.rule.Target.{Target}
use Rattle.cl_rules.specs.declared.rule.Want.TheVariants as want
use Rattle.cl_rules.specs.Operands.{first_broken}
use Rattle.cl_words.specs.Words.{word_shape, is_sized as is_sized_word, plain, named_type, limits, is_deep, is_empty, struct_tests, name_or_none}
use Rattle.cl_make.specs.Answered.{IsGiven}
use Rattle.cl_make.specs.Ready.{From, Grows}
use Rattle.cl_make.specs.Wanted.{IsWanted, by_shape, IsAskableShape, MayJoin, target}
use Rattle.cl_make.proofs.Growing.{none_some, some_same, layout_stays, interned_grows}
use Rattle.cl_make.proofs.Stays.{wanted_known, at_stays, env_stays}
use Rattle.cl_type_expr.specs.Syntax.{IsStruct}
use Rattle.cl_type_expr.specs.Expressions.{tag, tag_of, tagged, is_tag_again, is_type_name, is_typedef, is_complete, IsBase, word, named, struct_tag, struct_members, AreMembers}
use Rattle.cl_type_expr.specs.Offences.{at, BaseOffends, no_type, no_struct, in_members, broken_struct, SomeMemberOffends}
use Rattle.cl_type_expr.specs.Typing.{BaseIs, BaseStops, MembersAre, MembersStop, AreReadyMembers, StructIs, StructStops}
use Rattle.cl_type_expr.proofs.Judging.{target_stays}

-- ---- declarations that are known

known_both : (cs : List ClType) (xs ys : List Declared) → AreKnownIn cs xs → AreKnownIn cs ys → AreKnownIn cs (xs ++ ys)
known_both cs [] ys h k = k
known_both cs (d ∷ xs) ys h k = (h.0, known_both cs xs ys h.1 k)

newest_known : (cs : List ClType) (is_tag : Bool) (name : List ℕ) (ds : List Declared) (d : Declared) → AreKnownIn cs ds → newest is_tag name ds ≡ Some d → IsKnown cs d.ty
newest_known cs is_tag name [] d k e = absurd (none_some e)
newest_known cs is_tag name (x ∷ ds) d k e = by (is_called is_tag name x) (newest_known cs is_tag name ds d k.1) e
  where
    by : (found : Bool) → (newest is_tag name ds ≡ Some d → IsKnown cs d.ty) → (if found then Some x else newest is_tag name ds) ≡ Some d → IsKnown cs d.ty
    by true rest e = subst (λ z. IsKnown cs z.ty) (some_same x d e) k.0
    by false rest e = rest e

pub found_known : (cs : List ClType) (env : Env) (name : List ℕ) (d : Declared) → IsKnownEnv cs env → find env name ≡ Some d → IsKnown cs d.ty
found_known cs env name d k e = newest_known cs false name (env.inner ++ env.outer) d (known_both cs env.inner env.outer k.inner k.outer) e

pub tag_found_known : (cs : List ClType) (env : Env) (name : Option (List ℕ)) (d : Declared) → IsKnownEnv cs env → tag_of env name ≡ Some d → IsKnown cs d.ty
tag_found_known cs env None d k e = absurd (none_some e)
tag_found_known cs env (Some name) d k e = newest_known cs true name (env.inner ++ env.outer) d (known_both cs env.inner env.outer k.inner k.outer) e

pub tag_known : (cs : List ClType) (name : Option (List ℕ)) (t : TypeId) (complete : Bool) (env : Env) → IsKnown cs t → IsKnownEnv cs env → IsKnownEnv cs (tagged name t complete env)
tag_known cs None t complete env h k = k
tag_known cs (Some name) t complete env h k = record { outer = k.outer; inner = (h, k.inner); functions = k.functions }

-- ---- words

abbrev shaped : TypeId → Shape → Target
shaped t s = record { ty = t; shape = s }

wanted_shape : (cs : List ClType) (s : Shape) (t : TypeId) → IsWanted cs (want.Of s) t → shape_of cs t ≡ s
wanted_shape cs s t (by_shape s0 t0 k e) = e

integers_askable : (cs : List ClType) (bits n : ℕ) (signed : Bool) (fits : Bool) → (is_width bits && (nat_eq n 1 || is_count n)) ≡ fits → IsAskableShape cs (if fits then shape.Integers (record { bits = bits; signed = signed; count = n }) else shape.Integers (record { bits = 32; signed = true; count = 1 }))
integers_askable cs bits n signed true e = e
integers_askable cs bits n signed false e = refl

pub word_askable : (cs : List ClType) (b : Base) (s : Shape) → word_shape b ≡ Some s → IsAskableShape cs s
word_askable cs base.Void s e = subst (IsAskableShape cs) (some_same _ _ e) tt
word_askable cs base.Bool s e = subst (IsAskableShape cs) (some_same _ _ e) tt
word_askable cs (base.Int bits signed) s e = subst (IsAskableShape cs) (some_same _ _ e) (integers_askable cs bits 1 signed _ refl)
word_askable cs (base.Vector bits signed n) s e = subst (IsAskableShape cs) (some_same _ _ e) (integers_askable cs bits n signed _ refl)
word_askable cs (base.Sized signed) s e = subst (IsAskableShape cs) (some_same _ _ e) (integers_askable cs 32 1 signed _ refl)
word_askable cs b s e = absurd (none_some e)

pub word_ok : (cs : List ClType) (env : Env) (b : Base) (s : Shape) (t : TypeId) → IsKnownEnv cs env → word_shape b ≡ Some s → IsGiven cs (want.Of s) t → BaseIs cs env b env (plain (shaped t s) (is_sized_word b))
word_ok cs env b s t k e given =
    let now = given cs ([], sym (append-nil cs)) in
    record {
      base = λ more m. subst (λ z. IsBase more env b env (plain (shaped t z) (is_sized_word b))) (wanted_shape more s t (given more m)) (word env b s t e (given more m));
      ready = record { known = wanted_known cs (want.Of s) t now; shape = sym (wanted_shape cs s t now) };
      known = k;
    }

-- ---- names of types

is_named : (k : DeclaredKind) → is_type_name k ≡ true → k ≡ kind.Typedef
is_named (kind.Param n) e = absurd (true≢false (sym e))
is_named (kind.Var n) e = absurd (true≢false (sym e))
is_named (kind.Constant n) e = absurd (true≢false (sym e))
is_named kind.Typedef e = refl
is_named kind.Tag e = absurd (true≢false (sym e))

pub typedef_ok : (cs : List ClType) (env : Env) (b : Base) (name : List ℕ) (place : Place) (d : Declared) → IsTable cs → IsKnownEnv cs env → b ≡ base.Named name place → find env name ≡ Some d → is_type_name d.kind ≡ true → BaseIs cs env b env (named_type (target cs d.ty) d.readonly d.space)
typedef_ok cs env b name place d t k is found type =
    let known = found_known cs env name d k found in
    record {
      base = λ more m. subst (λ z. IsBase more env z env (named_type (target cs d.ty) d.readonly d.space)) (sym is)
          (subst (λ z. IsBase more env (base.Named name place) env (named_type z d.readonly d.space)) (target_stays cs more t m d.ty known) (named env name place d found (is_named d.kind type) (grown_known cs more d.ty m known)));
      ready = record { known = known; shape = refl };
      known = k;
    }

pub typedef_out : (cs : List ClType) (env : Env) (b : Base) (name : List ℕ) (place : Place) → b ≡ base.Named name place → is_typedef (find env name) ≡ false → BaseStops cs env b (Out (at 301 place))
typedef_out cs env b name place is h = λ more m. subst (λ z. BaseOffends more env z (at 301 place)) (sym is) (no_type env name place h)

is_tag : (b : Base) (name : Option (List ℕ)) (place : Place) → b ≡ base.Struct name place None → IsStruct b name place None
is_tag b name place is = record { declared = None; is = is; has = refl }

pub struct_tag_ok : (cs : List ClType) (env : Env) (b : Base) (name : Option (List ℕ)) (place : Place) (d : Declared) → IsTable cs → IsKnownEnv cs env → b ≡ base.Struct name place None → tag_of env name ≡ Some d → d.complete ≡ true → BaseIs cs env b env (plain (target cs d.ty) false)
struct_tag_ok cs env b name place d t k is found complete =
    let known = tag_found_known cs env name d k found in
    record {
      base = λ more m. subst (λ z. IsBase more env b env (plain z false)) (target_stays cs more t m d.ty known) (struct_tag env b name place d (is_tag b name place is) found complete (grown_known cs more d.ty m known));
      ready = record { known = known; shape = refl };
      known = k;
    }

pub struct_tag_out : (cs : List ClType) (env : Env) (b : Base) (name : Option (List ℕ)) (place : Place) → b ≡ base.Struct name place None → is_complete (tag_of env name) ≡ false → BaseStops cs env b (Out (at 305 place))
struct_tag_out cs env b name place is h = λ more m. no_struct env b name place (is_tag b name place is) h

-- ---- structs with their members

has_members : (b : Base) (name : Option (List ℕ)) (place : Place) (fields : Vec Field) → b ≡ base.Struct name place (Some fields) → IsStruct b name place (Some fields.items)
has_members b name place fields is = record { declared = Some fields; is = is; has = refl }

pub struct_known : (cs : List ClType) (name : Option (List ℕ)) (again : Bool) (ms : List Member) (t : TypeId) → StructIs cs name again ms t → IsKnown cs t
struct_known cs name again ms t s = at_known cs (ty.Struct (name_or_none name) ms) t (s.at cs ([], sym (append-nil cs)))

module _ (a m : List ClType) (env start : Env) (b : Base) (name : Option (List ℕ)) (place : Place) (fields : Vec Field) (void : TypeId) (is : b ≡ base.Struct name place (Some fields)) (given : IsGiven a (want.Of shape.Void) void) (begins : start ≡ tagged name void false env) (g : Grows a m) where
  void_later : (more : List ClType) → IsGrown m more → IsWanted more (want.Of shape.Void) void
  void_later more k = given more (grown_twice a m more g.grown k)

  pub struct_members_out : (all : List Field) (s : Stop) → all ≡ fields.items → MembersStop m start [] all s → BaseStops m env b s
  struct_members_out all NoMemory same stops = tt
  struct_members_out all (Out o) same stops = λ more k.
      in_members env b name place fields.items void o (has_members b name place fields is) (void_later more k)
      (subst (λ z. SomeMemberOffends more z [] fields.items o) begins (subst (λ z. SomeMemberOffends more start [] z o) same (stops more k)))

  module _ (new : List ClType) (all : List Field) (here : Env) (ms : List Member) (again : Bool) (same : all ≡ fields.items) (members : MembersAre m start [] all here ms) (flag : again ≡ is_tag_again env name) (u : Grows m new) where
    members_later : (more : List ClType) → IsGrown new more → AreMembers more (tagged name void false env) [] fields.items here ms
    members_later more k =
        subst (λ z. AreMembers more z [] fields.items here ms) begins (subst (λ z. AreMembers more start [] z here ms) same (members.members more (grown_twice m new more u.grown k)))

    pub struct_out : (s : Stop) → StructStops new place again ms s → BaseStops new env b s
    struct_out NoMemory stops = tt
    struct_out (Out o) stops = λ more k.
        subst (λ p. BaseOffends more env b (at o.code p)) (sym stops.0)
        (broken_struct env here b name place fields.items ms void o.code (has_members b name place fields is) (void_later more (grown_twice m new more u.grown k)) (members_later more k)
        (ap (λ z. first_broken (struct_tests more ms z)) (sym flag) ∙ stops.1 more k))

    pub struct_ok : (t : TypeId) (after : Env) (q : Qualified) → StructIs new name again ms t → after ≡ tagged name t true here → q ≡ plain (target new t) false → BaseIs new env b after q
    struct_ok t after q s ends made =
        let known = struct_known new name again ms t s in
        subst (λ z. BaseIs new env b z q) (sym ends) (subst (BaseIs new env b (tagged name t true here)) (sym made)
        (record {
          base = λ more k. subst (λ z. IsBase more env b (tagged name t true here) (plain z false)) (target_stays new more u.table k t known)
              (struct_members env here b name place fields.items ms void t (has_members b name place fields is) (void_later more (grown_twice m new more u.grown k)) (members_later more k)
              (ap (λ z. first_broken (struct_tests more ms z)) (sym flag) ∙ s.fits more k) (s.at more k));
          ready = record { known = known; shape = refl };
          known = tag_known new name t true here known (env_stays m new here u.grown members.known);
        }))

-- the declarations within a struct's braces
pub tag_begins : (old new : List ClType) (name : Option (List ℕ)) (void : TypeId) (env start : Env) → IsGrown old new → IsKnownEnv old env → IsGiven new (want.Of shape.Void) void → start ≡ tagged name void false env → IsKnownEnv new start
tag_begins old new name void env start g k given begins =
    subst (IsKnownEnv new) (sym begins) (tag_known new name void false env (wanted_known new (want.Of shape.Void) void (given new ([], sym (append-nil new)))) (env_stays old new env g k))

-- ---- limits

pub less : (a b : ℕ) → a < b → nat_lt a b ≡ true
less a b h = by (nat_lt a b) refl
  where
    by : (t : Bool) → nat_lt a b ≡ t → nat_lt a b ≡ true
    by true e = e
    by false e = absurd (let k = ltb-false a b e in omega (arith, k, h))

pub not_less : (a b : ℕ) → b ≤ a → nat_lt a b ≡ false
not_less a b h = by (nat_lt a b) refl
  where
    by : (t : Bool) → nat_lt a b ≡ t → nat_lt a b ≡ false
    by true e = absurd (let k = ltb-true a b e in omega (arith, k, h))
    by false e = e

pub limits_large : (t : TypeTree) → 65536 < size_of t → first_broken (limits t) ≡ Some 501
limits_large t h = ap (λ l. first_broken ((501, l) ∷ (502, is_deep t) ∷ [])) (less 65536 (size_of t) h)

pub limits_deep : (t : TypeTree) → size_of t ≤ 65536 → 16 < depth_of t → first_broken (limits t) ≡ Some 502
limits_deep t h k =
    ap (λ l. first_broken ((501, l) ∷ (502, is_deep t) ∷ [])) (not_less 65536 (size_of t) h) ∙ ap (λ d. first_broken ((502, d) ∷ [])) (less 16 (depth_of t) k)

pub limits_kept : (t : TypeTree) → IsWithin t → first_broken (limits t) ≡ None
limits_kept t w =
    ap (λ l. first_broken ((501, l) ∷ (502, is_deep t) ∷ [])) (not_less 65536 (size_of t) w.size) ∙ ap (λ d. first_broken ((502, d) ∷ [])) (not_less 16 (depth_of t) w.depth)

-- ---- the type of a struct

object_sized_in : (cs : List ClType) (o : Option ClType) → is_object (shape_in cs o) ≡ true → is_sized o ≡ true
object_sized_in cs None h = h
object_sized_in cs (Some ty.Void) h = h
object_sized_in cs (Some ty.Bool) h = refl
object_sized_in cs (Some (ty.Int bits signed)) h = refl
object_sized_in cs (Some (ty.Vector elem n)) h = refl
object_sized_in cs (Some (ty.Array elem n)) h = refl
object_sized_in cs (Some (ty.Struct name ms)) h = refl
object_sized_in cs (Some (ty.Pointer space to readonly restricted)) h = refl

pub object_sized : (cs : List ClType) (t : TypeId) → is_object (shape_of cs t) ≡ true → is_sized (slice_get cs t.0) ≡ true
object_sized cs t h = object_sized_in cs (slice_get cs t.0) h

members_sized : (cs : List ClType) (ms : List Member) → AreReadyMembers cs ms → AreSized cs ms
members_sized cs [] h = tt
members_sized cs (m ∷ ms) h = (object_sized cs m.ty h.0.object, members_sized cs ms h.1)

members_objects : (cs : List ClType) (ms : List Member) → AreReadyMembers cs ms → are_objects cs ms ≡ true
members_objects cs [] h = refl
members_objects cs (m ∷ ms) h = and_from (is_object (shape_of cs m.ty)) (are_objects cs ms) h.0.object (members_objects cs ms h.1)

not_empty : (ms : List Member) → is_empty ms ≡ false → 0 < length ms
not_empty [] e = absurd (true≢false e)
not_empty (m ∷ ms) e = omega arith

pub struct_built : (cs : List ClType) (name : List ℕ) (ms : List Member) → AreReadyMembers cs ms → is_empty ms ≡ false → IsBuilt cs (ty.Struct name ms)
struct_built cs name ms h e = (members_sized cs ms h, not_empty ms e)

pub struct_joins : (cs : List ClType) (name : List ℕ) (ms : List Member) → AreReadyMembers cs ms → MayJoin cs (ty.Struct name ms)
struct_joins cs name ms h = λ all. members_objects cs ms h

layouts_stay : (old new : List ClType) (ms : List Member) → IsGrown old new → AreReadyMembers old ms → trees_at (trees new) ms ≡ trees_at (trees old) ms
layouts_stay old new [] g h = refl
layouts_stay old new (m ∷ ms) g h =
    ap (λ t. one_more t (trees_at (trees new) ms)) (layout_stays old new m.ty g h.0.known) ∙ ap (λ ts. one_more (tree_of old m.ty.0) ts) (layouts_stay old new ms g h.1)

-- the tests of a struct that the block doesn't have yet, and that has members
fresh_tests : (cs : List ClType) (ms : List Member) (again : Bool) → again ≡ false → is_empty ms ≡ false → first_broken (struct_tests cs ms again) ≡ first_broken (limits (tree_from (trees cs) (ty.Struct [] ms)))
fresh_tests cs ms again a e =
    ap (λ z. first_broken ((302, z) ∷ (303, is_empty ms) ∷ limits (tree_from (trees cs) (ty.Struct [] ms)))) a ∙ ap (λ z. first_broken ((303, z) ∷ limits (tree_from (trees cs) (ty.Struct [] ms)))) e

module _ (old new : List ClType) (name : List ℕ) (ms : List Member) (again : Bool) (g : IsGrown old new) (h : AreReadyMembers old ms) (a : again ≡ false) (e : is_empty ms ≡ false) where
  struct_tree : (more : List ClType) → IsGrown new more → tree_from (trees more) (ty.Struct [] ms) ≡ tree_from (trees old) (ty.Struct name ms)
  struct_tree more m = ap Struct (layouts_stay old more ms (grown_twice old new more g m) h)

  tests_later : (more : List ClType) → IsGrown new more → first_broken (struct_tests more ms again) ≡ first_broken (limits (tree_from (trees old) (ty.Struct name ms)))
  tests_later more m = fresh_tests more ms again a e ∙ ap (λ t. first_broken (limits t)) (struct_tree more m)

  pub struct_large : IsOver (tree_from (trees old) (ty.Struct name ms)) TooLarge → From new (λ more. first_broken (struct_tests more ms again) ≡ Some 501)
  struct_large over = λ more m. tests_later more m ∙ limits_large (tree_from (trees old) (ty.Struct name ms)) over

  pub struct_deep : IsOver (tree_from (trees old) (ty.Struct name ms)) TooDeep → From new (λ more. first_broken (struct_tests more ms again) ≡ Some 502)
  struct_deep over = λ more m. tests_later more m ∙ limits_deep (tree_from (trees old) (ty.Struct name ms)) over.0 over.1

  pub struct_is : (named : Option (List ℕ)) (t : TypeId) → name ≡ name_or_none named → IsAt new (ty.Struct name ms) t → IsWithin (tree_from (trees old) (ty.Struct name ms)) → StructIs new named again ms t
  struct_is tag t same is within = record {
    at = λ more m. at_stays new more (ty.Struct (name_or_none tag) ms) t m (subst (λ z. IsAt new (ty.Struct z ms) t) same is);
    fits = λ more m. tests_later more m ∙ limits_kept (tree_from (trees old) (ty.Struct name ms)) within;
  }

pub struct_again : (cs : List ClType) (place : Place) (again : Bool) (ms : List Member) → again ≡ true → StructStops cs place again ms (Out (at 302 place))
struct_again cs place again ms a = (refl, λ more m. ap (λ z. first_broken (struct_tests more ms z)) a)

pub struct_empty : (cs : List ClType) (place : Place) (again : Bool) (ms : List Member) → again ≡ false → is_empty ms ≡ true → StructStops cs place again ms (Out (at 303 place))
struct_empty cs place again ms a e = (
  refl,
  λ more m.
      ap (λ z. first_broken ((302, z) ∷ (303, is_empty ms) ∷ limits (tree_from (trees more) (ty.Struct [] ms)))) a ∙ ap (λ z. first_broken ((303, z) ∷ limits (tree_from (trees more) (ty.Struct [] ms)))) e,
)

-- a struct as it goes into a table
module _ (old new : List ClType) (name : List ℕ) (list ms : List Member) (again : Bool) (b : IsTable old) (same : list ≡ ms) (h : AreReadyMembers old ms) (a : again ≡ false) (e : is_empty ms ≡ false) where
  pub struct_may_be : IsBuilt old (ty.Struct name list)
  struct_may_be = subst (λ z. IsBuilt old (ty.Struct name z)) (sym same) (struct_built old name ms h e)

  pub struct_grows : (r : Result TypeId TypeStop) → IsTable new → IfOk r (λ t. Interned old new (ty.Struct name list) t.0) → OnErr r (new ≡ old) → Grows old new
  struct_grows r n i refused = interned_grows old new (ty.Struct name list) r b n struct_may_be (subst (λ z. MayJoin old (ty.Struct name z)) (sym same) (struct_joins old name ms h)) i refused

  pub struct_made : (tag : Option (List ℕ)) (t : TypeId) → IsGrown old new → name ≡ name_or_none tag → Interned old new (ty.Struct name list) t.0 → IsWithin (tree_from (trees old) (ty.Struct name list)) → StructIs new tag again ms t
  struct_made tag t g called i within =
      struct_is old new name ms again g h a e tag t called (subst (λ z. IsAt new (ty.Struct name z) t) same (interned_at old new (ty.Struct name list) (Ok t) i))
      (subst (λ z. IsWithin (tree_from (trees old) (ty.Struct name z))) same within)

  pub struct_too_large : (place : Place) (s : TypeStop) → IsGrown old new → s ≡ TooLarge → IsOver (tree_from (trees old) (ty.Struct name list)) s → StructStops new place again ms (Out (at 501 place))
  struct_too_large place s g is over =
      (refl, struct_large old new name ms again g h a e (subst (λ z. IsOver (tree_from (trees old) (ty.Struct name z)) TooLarge) same (subst (IsOver (tree_from (trees old) (ty.Struct name list))) is over)))

  pub struct_too_deep : (place : Place) (s : TypeStop) → IsGrown old new → s ≡ TooDeep → IsOver (tree_from (trees old) (ty.Struct name list)) s → StructStops new place again ms (Out (at 502 place))
  struct_too_deep place s g is over =
      (refl, struct_deep old new name ms again g h a e (subst (λ z. IsOver (tree_from (trees old) (ty.Struct name z)) TooDeep) same (subst (IsOver (tree_from (trees old) (ty.Struct name list))) is over)))
