-- The types of declared names, and members of structs.
use Rattle.std.proofs.Common.{◌≡◌, ℕ, ◌+◌, ◌*◌, ◌<◌, ◌≤◌, Bool, true, false, List, [], ◌∷◌, ◌++◌, drop, Option, Some, None, is_some, refl, sym, ap, ◌∙◌, subst, arith, nat_lt, true≢false, ltb-true, append_assoc, ◌&&◌, ◌||◌, not}
use Rattle.std.proofs.lemmas.List.{append-nil}
use Rattle.clv_place.specs.declared.place.Place.{Place}
use Rattle.clv_place.specs.declared.stop.Stop.TheVariants.{Out}
use Rattle.cl_types.specs.declared.types.ClType.{ClType}
use Rattle.cl_types.specs.declared.types.Member.{Member}
use Rattle.cl_types.specs.declared.types.TypeId.{TypeId}
use Rattle.cl_types.specs.declared.stop.TypeStop.{TypeStop}
use Rattle.cl_types.specs.declared.stop.TypeStop.TheVariants.{TooLarge, TooDeep, NoMemory as NoRoom}
use Rattle.cl_types.specs.Layout.{TypeTree, size_of, depth_of}
use Rattle.cl_types.specs.Table.{IsTable, IsWithin, tree_of}
use Rattle.cl_builtins.specs.Found.{IsKnown, IsGrown}
use Rattle.cl_builtins.proofs.Growth.{grown_twice, grown_known}
use Rattle.cl_ast.specs.declared.expression.Qual.{Qual}
use Rattle.cl_tree.specs.declared.shape.Shape.{Shape}
use Rattle.cl_tree.specs.declared.shape.Shape.TheVariants as shape
use Rattle.cl_tree.specs.Shapes.{shape_of, is_pointer}
use Rattle.cl_tree.specs.Units.{is_object}
use Rattle.cl_rules.specs.declared.rule.Qualified.{Qualified}
use Rattle.cl_rules.specs.declared.rule.Want.{Want}
use Rattle.cl_rules.specs.declared.rule.Want.TheVariants as want
use Rattle.cl_rules.specs.Operands.{first_broken}
use Rattle.cl_words.specs.declared.naming.Length.{Length}
use Rattle.cl_words.specs.declared.naming.Length.TheVariants.{Long, Open, Wrong}
use Rattle.cl_words.specs.declared.naming.Sketch.{Sketch}
use Rattle.cl_words.specs.Words.{sketch, layout_of, has_lengths, is_no_element, no_declared_type, is_declared, number_in, numbers, array_tree, limits, is_large, is_deep, declared_tree, declared_limits_at, has_member, some_wrong, member_tests_at, member_tests}
use Rattle.cl_make.specs.Answered.{IsGiven}
use Rattle.cl_make.specs.Ready.{From, Grows, IsReadyType}
use Rattle.cl_make.specs.Wanted.{IsWanted, by_number, IsGivable, IsArrayOf, no_array, IsDeclaredAs}
use Rattle.cl_make.proofs.Growing.{none_some, shape_stays, layout_stays, askable_stays}
use Rattle.cl_make.proofs.Stays.{wanted_known}
use Rattle.cl_type_expr.specs.Sizes.{product, AreSome, ArraysStop}
use Rattle.cl_type_expr.specs.Typing.{ArePositive, IsReadyWant, IsReadySketch, DeclaredIs, DeclaredStops, IsReadyMember, AreReadyMembers, MemberIsNamed, MemberNameStops}
use Rattle.cl_type_expr.proofs.WordTypes.{limits_large, limits_deep, limits_kept}
use Rattle.cl_type_expr.proofs.Arrays.{array_size, array_layout, array_known, array_object}

-- ---- numbers of elements

pub numbers_next : (first : ℕ) (ls : List Length) (i missing : ℕ) (ns all : List ℕ) (l : Length) → numbers first ls ≡ ns ++ numbers missing (drop i ls) → drop i ls ≡ l ∷ drop (i + 1) ls → all ≡ ns ++ number_in missing l ∷ [] → numbers first ls ≡ all ++ numbers 1 (drop (i + 1) ls)
numbers_next first ls i missing ns all l h next push =
    let tail : List ℕ = numbers 1 (drop (i + 1) ls) in
    h ∙ ap (λ z. ns ++ numbers missing z) next ∙ sym (append_assoc ns (number_in missing l ∷ []) tail) ∙ ap (λ z. z ++ tail) (sym push)

pub numbers_end : (first : ℕ) (ls : List Length) (i missing : ℕ) (ns : List ℕ) → numbers first ls ≡ ns ++ numbers missing (drop i ls) → drop i ls ≡ [] → ns ≡ numbers first ls
numbers_end first ls i missing ns h done = sym (h ∙ ap (λ z. ns ++ numbers missing z) done ∙ append-nil ns)

pub numbers_some : (first : ℕ) (ls : List Length) → 0 < first → ArePositive ls → AreSome (numbers first ls)
numbers_some first [] f h = tt
numbers_some first (Long n ∷ ls) f h = (h.0, numbers_some 1 ls (omega arith) h.1)
numbers_some first (Open ∷ ls) f h = (f, numbers_some 1 ls (omega arith) h.1)
numbers_some first (Wrong ∷ ls) f h = (omega arith, numbers_some 1 ls (omega arith) h.1)

-- ---- what may be declared

pub no_lengths : (empty : Bool) (ls : List Length) → (empty ≡ true → ls ≡ []) → empty ≡ true → ls ≡ []
no_lengths empty ls f e = f e

pub some_lengths : (empty : Bool) (ls : List Length) → (ls ≡ [] → empty ≡ true) → empty ≡ false → has_lengths ls ≡ true
some_lengths empty [] f e = absurd (true≢false (sym (f refl) ∙ e))
some_lengths empty (l ∷ ls) f e = refl

or_first : (a b : Bool) → (a || b) ≡ false → a ≡ false
or_first true b h = h
or_first false b h = refl

or_second : (a b : Bool) → (a || b) ≡ false → b ≡ false
or_second true b h = absurd (true≢false h)
or_second false b h = h

pub ready_givable : (cs : List ClType) (k : Sketch) → IsReadySketch cs k → IsGivable cs k.of
ready_givable cs k h = by k.of k.shape h
  where
    by : (w : Want) (s : Shape) → IsReadyWant cs w s → IsGivable cs w
    by want.Own s h = h
    by (want.Type t) s h = h.0
    by (want.Of u) s h = h.0

-- an array's elements
pub object_element : (s : Shape) → is_no_element s ≡ false → is_object s ≡ true
object_element shape.Void e = absurd (true≢false e)
object_element shape.Bool e = absurd (true≢false e)
object_element (shape.Integers t) e = refl
object_element (shape.Array elem len nested) e = refl
object_element shape.Struct e = refl
object_element (shape.Pointer space to readonly restricted) e = absurd (true≢false e)

pointer_no_element : (s : Shape) → is_pointer s ≡ true → is_no_element s ≡ true
pointer_no_element shape.Void e = refl
pointer_no_element shape.Bool e = refl
pointer_no_element (shape.Integers t) e = e
pointer_no_element (shape.Array elem len nested) e = e
pointer_no_element shape.Struct e = e
pointer_no_element (shape.Pointer space to readonly restricted) e = refl

-- a type of the table with its layout, where there is one
pub record IsElement (cs : List ClType) (k : Sketch) (elem : TypeId) : Type 0 where
  pub of : k.of ≡ want.Type elem
  pub shape : k.shape ≡ shape_of cs elem
  pub known : IsKnown cs elem
  pub object : is_object (shape_of cs elem) ≡ true

wanted_number : (cs : List ClType) (t u : TypeId) → IsWanted cs (want.Type t) u → u ≡ t
wanted_number cs t u (by_number t0 k) = refl

element_by : (cs : List ClType) (w : Want) (s : Shape) (elem : TypeId) → IsReadyWant cs w s → is_no_element s ≡ false → IsWanted cs w elem → (w ≡ want.Type elem) × (s ≡ shape_of cs elem) × IsKnown cs elem
element_by cs want.Own s elem h e w = absurd h
element_by cs (want.Type t) s elem h e w =
    let same = sym (wanted_number cs t elem w) in
    (ap want.Type same, h.1 ∙ ap (shape_of cs) same, subst (IsKnown cs) same h.0)
element_by cs (want.Of u) s elem h e w = absurd (true≢false (sym (pointer_no_element s (ap is_pointer h.2 ∙ h.1)) ∙ e))

-- ---- the type of a declared name

module _ (old mid : List ClType) (k : Sketch) (first : ℕ) (elem : TypeId) (b : IsTable old) (ready : IsReadySketch old k) (g : Grows old mid) (given : IsGiven mid k.of elem) where
  elem_known : IsKnown mid elem
  elem_known = wanted_known mid k.of elem (given mid ([], sym (append-nil mid)))

  ready_later : IsReadyWant mid k.of k.shape
  ready_later = by k.of k.shape ready
    where
      by : (w : Want) (s : Shape) → IsReadyWant old w s → IsReadyWant mid w s
      by want.Own s h = h
      by (want.Type t) s h = (grown_known old mid t g.grown h.0, h.1 ∙ sym (shape_stays old mid t b g.grown h.0))
      by (want.Of u) s h = (askable_stays old mid (want.Of u) b g.grown h.0, h.1, h.2)

  -- without lengths
  plain_within : (more : List ClType) → IsGrown mid more → IsWithin (layout_of more k.of)
  plain_within more m = by k.of k.shape ready_later
    where
      by : (w : Want) (s : Shape) → IsReadyWant mid w s → IsWithin (layout_of more w)
      by want.Own s h = absurd h
      by (want.Type t) s h = subst IsWithin (sym (layout_stays mid more t m h.0)) (g.table.within t.0 h.0)
      by (want.Of u) s h = record { size = omega arith; depth = omega arith }

  pub declared_plain : k.lengths ≡ [] → DeclaredIs mid k first elem
  declared_plain none = record {
    is = λ more m. record { elem = elem; wanted = given more m; arrays = subst (λ z. IsArrayOf more elem (numbers first z) elem) (sym none) (no_array elem) };
    known = elem_known;
    fits = λ more m. ap (λ z. first_broken (limits (array_tree (layout_of more k.of) (numbers first z)))) none ∙ limits_kept (layout_of more k.of) (plain_within more m);
  }

  -- with lengths
  pub element_is : no_declared_type k ≡ false → has_lengths k.lengths ≡ true → IsElement mid k elem
  element_is fine some =
      let both : (has_lengths k.lengths && is_no_element k.shape) ≡ false = or_second k.no_type (has_lengths k.lengths && is_no_element k.shape) fine in
      let e : is_no_element k.shape ≡ false = subst (λ z. (z && is_no_element k.shape) ≡ false) some both in
      let p = element_by mid k.of k.shape elem ready_later e (given mid ([], sym (append-nil mid))) in
      record { of = p.0; shape = p.1; known = p.2; object = ap is_object (sym p.1) ∙ object_element k.shape e }

  module _ (el : IsElement mid k elem) where
    tree_at_more : (more : List ClType) → IsGrown mid more → declared_tree more k first ≡ array_tree (tree_of mid elem.0) (numbers first k.lengths)
    tree_at_more more m = ap (λ w. array_tree (layout_of more w) (numbers first k.lengths)) el.of ∙ ap (λ t. array_tree t (numbers first k.lengths)) (layout_stays mid more elem m el.known)

    pub declared_large : (size : ℕ) (ns : List ℕ) → size ≡ size_of (tree_of mid elem.0) → ns ≡ numbers first k.lengths → nat_lt 65536 (product ns * size) ≡ true → DeclaredStops mid k first TooLarge
    declared_large size ns s n large = λ more m.
        let whole : product ns * size ≡ size_of (array_tree (tree_of mid elem.0) (numbers first k.lengths)) = ap (λ z. product ns * z) s ∙ ap (λ z. product z * size_of (tree_of mid elem.0)) n ∙ sym (array_size (tree_of mid elem.0) (numbers first k.lengths)) in
        let l = ltb-true 65536 (product ns * size) large in
        ap (λ t. first_broken (limits t)) (tree_at_more more m) ∙ limits_large (array_tree (tree_of mid elem.0) (numbers first k.lengths)) (subst (λ z. 65536 < z) whole l)

    module _ (new : List ClType) (ns : List ℕ) (n : ns ≡ numbers first k.lengths) (u : Grows mid new) where
      pub declared_ok : (t : TypeId) → From new (λ more. IsArrayOf more elem ns t) → DeclaredIs new k first t
      declared_ok t built =
          let now = built new ([], sym (append-nil new)) in
          let known = array_known new elem t ns (grown_known mid new elem u.grown el.known) now in
          let layout : tree_of new t.0 ≡ array_tree (tree_of mid elem.0) (numbers first k.lengths) = array_layout new elem t ns u.table.built now ∙ ap (λ z. array_tree z ns) (layout_stays mid new elem u.grown el.known) ∙ ap (array_tree (tree_of mid elem.0)) n in
          record {
            is = λ more m. record { elem = elem; wanted = given more (grown_twice mid new more u.grown m); arrays = subst (λ z. IsArrayOf more elem z t) n (built more m) };
            known = known;
            fits = λ more m. ap (λ z. first_broken (limits z)) (tree_at_more more (grown_twice mid new more u.grown m) ∙ sym layout) ∙ limits_kept (tree_of new t.0) (u.table.within t.0 known);
          }

      pub declared_out : (size : ℕ) (s : TypeStop) → size ≡ size_of (tree_of mid elem.0) → product ns * size ≤ 65536 → ArraysStop new elem ns s → DeclaredStops new k first s
      declared_out size TooLarge e low stops = absurd stops
      declared_out size TooDeep e low stops = λ more m.
          let m2 = grown_twice mid new more u.grown m in
          let tree : TypeTree = array_tree (tree_of mid elem.0) (numbers first k.lengths) in
          let size_low : size_of tree ≤ 65536 = subst (λ z. z ≤ 65536) (ap (λ z. product ns * z) e ∙ ap (λ z. product z * size_of (tree_of mid elem.0)) n ∙ sym (array_size (tree_of mid elem.0) (numbers first k.lengths))) low in
          let deep : 16 < depth_of tree = subst (λ z. 16 < depth_of z) (ap (λ t. array_tree t ns) (layout_stays mid more elem m2 el.known) ∙ ap (array_tree (tree_of mid elem.0)) n) (stops more m) in
          ap (λ z. first_broken (limits z)) (tree_at_more more m2) ∙ limits_deep tree size_low deep
      declared_out size NoRoom e low stops = tt

-- ---- members

pub ready_members_stay : (old new : List ClType) (ms : List Member) → IsTable old → IsGrown old new → AreReadyMembers old ms → AreReadyMembers new ms
ready_members_stay old new [] b g m = tt
ready_members_stay old new (x ∷ ms) b g m = (record { known = grown_known old new x.ty g m.0.known; object = ap is_object (shape_stays old new x.ty b g m.0.known) ∙ m.0.object }, ready_members_stay old new ms b g m.1)

-- six tests, of which the last two are limits
abbrev six : Bool → Bool → Bool → Bool → Bool → Bool → List (ℕ × Bool)
six a b c d l e = (302, a) ∷ (303, b) ∷ (304, c) ∷ (326, d) ∷ (501, l) ∷ (502, e) ∷ []

code_kept : (a b c d l e : Bool) (code : ℕ) → first_broken (six a b c d false false) ≡ Some code → first_broken (six a b c d l e) ≡ Some code
code_kept true b c d l e code h = h
code_kept false true c d l e code h = h
code_kept false false true d l e code h = h
code_kept false false false true l e code h = h
code_kept false false false false l e code h = absurd (none_some h)

record Kept (a b c d : Bool) : Type 0 where
  first : a ≡ false
  second : b ≡ false
  third : c ≡ false
  fourth : d ≡ false

all_kept : (a b c d : Bool) → first_broken (six a b c d false false) ≡ None → Kept a b c d
all_kept true b c d h = absurd (none_some (sym h))
all_kept false true c d h = absurd (none_some (sym h))
all_kept false false true d h = absurd (none_some (sym h))
all_kept false false false true h = absurd (none_some (sym h))
all_kept false false false false h = record { first = refl; second = refl; third = refl; fourth = refl }

rest_kept : (a b c d l e : Bool) → Kept a b c d → first_broken (six a b c d l e) ≡ first_broken ((501, l) ∷ (502, e) ∷ [])
rest_kept a b c d l e h =
    ap (λ z. first_broken (six z b c d l e)) h.first ∙ ap (λ z. first_broken (six false z c d l e)) h.second ∙ ap (λ z. first_broken (six false false z d l e)) h.third ∙ ap (λ z. first_broken (six false false false z l e)) h.fourth

abbrev no_type : Sketch → Bool
no_type k = no_declared_type k || is_declared is_no_element k

abbrev in_space : Sketch → Bool
in_space k = k.clash || is_some k.space

pub member_broken_stops : (cs : List ClType) (q : Qualified) (star : Option (List Qual)) (ls : List Length) (name : List ℕ) (place : Place) (before : List Member) (k : Sketch) (repeated : Bool) (code : ℕ) → k ≡ sketch q star ls → repeated ≡ has_member name before → first_broken (member_tests_at k repeated false false) ≡ Some code → MemberNameStops cs q star ls name place before (Out (record { code = code; place = place }))
member_broken_stops cs q star ls name place before k repeated code is r h = (
  refl,
  λ more m.
      subst (λ z. first_broken (member_tests more z (has_member name before)) ≡ Some code) is
      (subst (λ z. first_broken (member_tests more k z) ≡ Some code) r
      (code_kept repeated (no_type k) (some_wrong k.lengths) (in_space k) (is_large (declared_tree more k 1)) (is_deep (declared_tree more k 1)) code h)),
)

module _ (q : Qualified) (star : Option (List Qual)) (ls : List Length) (name : List ℕ) (before : List Member) (k : Sketch) (repeated : Bool) (is : k ≡ sketch q star ls) (r : repeated ≡ has_member name before) (h : first_broken (member_tests_at k repeated false false) ≡ None) where
  kept : Kept repeated (no_type k) (some_wrong k.lengths) (in_space k)
  kept = all_kept repeated (no_type k) (some_wrong k.lengths) (in_space k) h

  pub never_repeated : has_member name before ≡ false
  never_repeated = sym r ∙ kept.first

  pub member_fine : no_declared_type k ≡ false
  member_fine = or_first (no_declared_type k) (is_declared is_no_element k) kept.second

  no_element : is_no_element k.shape ≡ false
  no_element = by (has_lengths k.lengths) (is_no_element k.shape) k.no_type kept.second
    where
      by : (l e n : Bool) → ((n || (l && e)) || (not l && e)) ≡ false → e ≡ false
      by true true true f = absurd (true≢false f)
      by true true false f = absurd (true≢false f)
      by true false n f = refl
      by false true true f = absurd (true≢false f)
      by false true false f = absurd (true≢false f)
      by false false n f = refl

  -- a member is no pointer
  sketched : (s : Option (List Qual)) → is_no_element (sketch q s ls).shape ≡ false → (cs : List ClType) → IsReadyType cs q → IsReadySketch cs (sketch q s ls)
  sketched None e cs t = (t.known, t.shape)
  sketched (Some quals) e cs t = absurd (true≢false e)

  pub member_ready : (cs : List ClType) → IsReadyType cs q → IsReadySketch cs k
  member_ready cs t = subst (IsReadySketch cs) (sym is) (sketched star (subst (λ z. is_no_element z.shape ≡ false) is no_element) cs t)

  pub member_lengths : ArePositive ls → ArePositive k.lengths
  member_lengths p = subst (λ z. ArePositive z.lengths) (sym is) (by star)
    where
      by : (s : Option (List Qual)) → ArePositive (sketch q s ls).lengths
      by None = p
      by (Some quals) = p

  limits_alone : (more : List ClType) → first_broken (member_tests more (sketch q star ls) (has_member name before)) ≡ first_broken (declared_limits_at more k 1)
  limits_alone more =
      ap (λ z. first_broken (member_tests more z (has_member name before))) (sym is) ∙ ap (λ z. first_broken (member_tests more k z)) (sym r)
      ∙ rest_kept repeated (no_type k) (some_wrong k.lengths) (in_space k) (is_large (declared_tree more k 1)) (is_deep (declared_tree more k 1)) kept

  pub member_large : (cs : List ClType) (place : Place) → DeclaredStops cs k 1 TooLarge → MemberNameStops cs q star ls name place before (Out (record { code = 501; place = place }))
  member_large cs place stops = (refl, λ more m. limits_alone more ∙ stops more m)

  pub member_deep : (cs : List ClType) (place : Place) → DeclaredStops cs k 1 TooDeep → MemberNameStops cs q star ls name place before (Out (record { code = 502; place = place }))
  member_deep cs place stops = (refl, λ more m. limits_alone more ∙ stops more m)

  member_object : (cs : List ClType) (t : TypeId) → IsReadyType cs q → IsDeclaredAs cs k 1 t → is_object (shape_of cs t) ≡ true
  member_object cs t ready d =
      let e = element_by cs k.of k.shape d.elem (member_ready cs ready) no_element d.wanted in
      array_object cs d.elem t (numbers 1 k.lengths) (ap is_object (sym e.1) ∙ object_element k.shape no_element) d.arrays

  members_push : (cs : List ClType) (ms : List Member) (x : Member) → AreReadyMembers cs ms → IsReadyMember cs x → AreReadyMembers cs (ms ++ x ∷ [])
  members_push cs [] x m y = (y, tt)
  members_push cs (z ∷ ms) x m y = (m.0, members_push cs ms x m.1 y)

  pub member_named : (old new : List ClType) (t : TypeId) (after : List Member) → IsTable old → IsGrown old new → IsReadyType new q → AreReadyMembers old before → DeclaredIs new k 1 t → after ≡ before ++ record { name = name; ty = t } ∷ [] → MemberIsNamed new q star ls name before after
  member_named old new t after b g ready m d push = record {
    ty = t;
    fits = λ more n. limits_alone more ∙ d.fits more n;
    is = λ more n. subst (λ z. IsDeclaredAs more z 1 t) is (d.is more n);
    behind = push;
    ready = subst (AreReadyMembers new) (sym push) (members_push new before (record { name = name; ty = t }) (ready_members_stay old new before b g m)
        (record { known = d.known; object = member_object new t ready (d.is new ([], sym (append-nil new))) }));
  }
