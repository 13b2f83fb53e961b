-- Arrays of arrays: their bytes, and their numbers in a table.
use Rattle.std.proofs.Common.{◌≡◌, ℕ, zero, suc, ◌+◌, ◌*◌, ◌<◌, ◌≤◌, Bool, true, false, List, [], ◌∷◌, length, drop, get_or, refl, sym, ap, ◌∙◌, subst, arith, min, ◌-◌, nat_lt, ltb-true, ltb-false, add-one, Result, Ok}
use Rattle.std.proofs.Common.{mul_comm, mul_assoc, mul-pos}
use Rattle.std.proofs.lemmas.Nat.{mul-le}
use Rattle.std.proofs.Math.Seq.{drop-cons}
use Rattle.std.proofs.lemmas.List.{append-nil}
use Rattle.std.specs.Prelude.{IfOk, OnErr}
use Rattle.cl_types.specs.declared.types.ClType.{ClType}
use Rattle.cl_types.specs.declared.types.ClType.TheVariants as ty
use Rattle.cl_types.specs.declared.types.TypeId.{TypeId}
use Rattle.cl_types.specs.declared.stop.TypeStop.{TypeStop}
use Rattle.cl_types.specs.declared.stop.TypeStop.TheVariants.{TooLarge, TooDeep, NoMemory}
use Rattle.cl_types.specs.Layout.{TypeTree, Array, size_of, depth_of}
use Rattle.cl_types.specs.Table.{IsTable, IsBuilt, AreBuilt, Interned, IsOver, trees, tree_of, tree_from}
use Rattle.cl_types.proofs.Rows.{tree_found}
use Rattle.cl_builtins.specs.Found.{IsKnown, IsGrown}
use Rattle.cl_builtins.specs.Tables.{IsAt}
use Rattle.cl_builtins.proofs.Growth.{grown_twice, at_known, interned_at}
use Rattle.cl_tree.specs.Shapes.{shape_of, shape_in}
use Rattle.cl_tree.specs.Units.{is_object}
use Rattle.cl_words.specs.Words.{array_tree}
use Rattle.cl_make.specs.Ready.{From, Grows}
use Rattle.cl_make.specs.Wanted.{IsArrayOf, no_array, array, MayJoin}
use Rattle.cl_make.proofs.Growing.{shape_stays, layout_stays, grows_twice, grows_itself, interned_grows}
use Rattle.cl_make.proofs.Stays.{at_stays}
use Rattle.cl_type_expr.specs.Sizes.{product, AreSome, ArraysStop}
use Rattle.cl_type_expr.proofs.WordTypes.{less, not_less, object_sized}
use Rattle.cl_type_expr.proofs.Bytes.{size_some}
use Rattle.cl_type_expr.proofs.Loops.{dropped_all}

-- ---- bytes

-- cut at 65,537
abbrev cut : ℕ → ℕ
cut n = min n 65537

cut_left : (a b : ℕ) → cut (cut a * b) ≡ cut (a * b)
cut_left a b = by (nat_lt 65537 a) refl b
  where
    large : (b : ℕ) → 65537 < a → cut (cut a * b) ≡ cut (a * b)
    large zero h = ap cut (times_none (cut a) ∙ sym (times_none a))
      where
        times_none : (n : ℕ) → n * 0 ≡ 0
        times_none n = omega arith
    large (suc b) h =
        let c : cut a ≡ 65537 = omega arith in
        let one : 65537 ≤ 65537 * suc b = omega arith in
        let more : 65537 * suc b ≤ a * suc b = mul-le 65537 (suc b) a (suc b) (omega arith) (omega arith) in
        let left : cut (65537 * suc b) ≡ 65537 = omega (arith, one) in
        let right : cut (a * suc b) ≡ 65537 = omega (arith, one, more) in
        ap (λ z. cut (z * suc b)) c ∙ left ∙ sym right

    by : (t : Bool) → nat_lt 65537 a ≡ t → (b : ℕ) → cut (cut a * b) ≡ cut (a * b)
    by true e b = large b (ltb-true 65537 a e)
    by false e b = let l = ltb-false 65537 a e in let c : cut a ≡ a = omega (arith, l) in ap (λ z. cut (z * b)) c

cut_right : (a b : ℕ) → cut (a * cut b) ≡ cut (a * b)
cut_right a b = ap cut (mul_comm a (cut b)) ∙ cut_left b a ∙ ap cut (mul_comm b a)

-- what is left to multiply
pub record BytesSoFar (size : ℕ) (ns : List ℕ) (i bytes : ℕ) : Type 0 where
  pub low : bytes ≤ 65537
  pub same : cut (bytes * product (drop i ns)) ≡ cut (product ns * size)

pub bytes_start : (size : ℕ) (ns : List ℕ) → size ≤ 65536 → BytesSoFar size ns 0 size
bytes_start size ns h = record { low = omega arith; same = ap cut (mul_comm size (product ns)) }

pub bytes_next : (size : ℕ) (ns : List ℕ) (i bytes n new : ℕ) → BytesSoFar size ns i bytes → drop i ns ≡ n ∷ drop (i + 1) ns → new ≡ cut (bytes * cut n) → BytesSoFar size ns (i + 1) new
bytes_next size ns i bytes n new h next is =
    let p : ℕ = product (drop (i + 1) ns) in
    record {
      low = let l : cut (bytes * cut n) ≤ 65537 = omega arith in subst (λ z. z ≤ 65537) (sym is) l;
      same = ap (λ z. cut (z * p)) (is ∙ cut_right bytes n) ∙ cut_left (bytes * n) p ∙ ap cut (mul_assoc bytes n p) ∙ ap (λ z. cut (bytes * product z)) (sym next) ∙ h.same;
    }

-- a number at its index
pub bytes_step : (size : ℕ) (ns : List ℕ) (i bytes m new : ℕ) → BytesSoFar size ns i bytes → i < length ns → m ≡ cut (get_or ns i 0) → new ≡ cut (bytes * m) → BytesSoFar size ns (i + 1) new
bytes_step size ns i bytes m new h low one is =
    bytes_next size ns i bytes (get_or ns i 0) new h (drop-cons ns i 0 low ∙ ap (λ k. get_or ns i 0 ∷ drop k ns) (sym (add-one i))) (is ∙ ap (λ z. cut (bytes * z)) one)

pub bytes_end : (size : ℕ) (ns : List ℕ) (i bytes : ℕ) → BytesSoFar size ns i bytes → drop i ns ≡ [] → nat_lt 65536 bytes ≡ nat_lt 65536 (product ns * size)
bytes_end size ns i bytes h done =
    let all : cut bytes ≡ cut (product ns * size) = ap cut (sym (times_one bytes)) ∙ ap (λ z. cut (bytes * product z)) (sym done) ∙ h.same in
    by (nat_lt 65536 bytes) refl all
  where
    times_one : (n : ℕ) → n * 1 ≡ n
    times_one n = omega arith

    by : (t : Bool) → nat_lt 65536 bytes ≡ t → cut bytes ≡ cut (product ns * size) → nat_lt 65536 bytes ≡ nat_lt 65536 (product ns * size)
    by true e all = let l = ltb-true 65536 bytes e in e ∙ sym (less 65536 (product ns * size) (omega (arith, l, all)))
    by false e all = let l = ltb-false 65536 bytes e in e ∙ sym (not_less 65536 (product ns * size) (omega (arith, l, all)))

pub array_size : (t : TypeTree) (ns : List ℕ) → size_of (array_tree t ns) ≡ product ns * size_of t
array_size t [] = omega arith
array_size t (n ∷ ns) = ap (λ z. n * z) (array_size t ns) ∙ sym (mul_assoc n (product ns) (size_of t))

array_some : (t : TypeTree) (ns : List ℕ) → 0 < size_of t → AreSome ns → 0 < size_of (array_tree t ns)
array_some t [] h s = h
array_some t (n ∷ ns) h s = mul-pos s.0 (array_some t ns h s.1)

-- an array of what is left is no larger and no deeper than the whole
rest_low : (t : TypeTree) (ns : List ℕ) (i : ℕ) → AreSome ns → size_of (array_tree t (drop i ns)) ≤ size_of (array_tree t ns)
rest_low t [] zero s = omega arith
rest_low t [] (suc i) s = omega arith
rest_low t (n ∷ ns) zero s = omega arith
rest_low t (n ∷ ns) (suc i) s =
    let l = rest_low t ns i s.1 in
    let m = mul-le 1 (size_of (array_tree t ns)) n (size_of (array_tree t ns)) s.0 (omega arith) in
    omega (arith, l, m)

rest_shallow : (t : TypeTree) (ns : List ℕ) (i : ℕ) → depth_of (array_tree t (drop i ns)) ≤ depth_of (array_tree t ns)
rest_shallow t [] zero = omega arith
rest_shallow t [] (suc i) = omega arith
rest_shallow t (n ∷ ns) zero = omega arith
rest_shallow t (n ∷ ns) (suc i) = let l = rest_shallow t ns i in omega (arith, l)

rest_some : (ns : List ℕ) (i : ℕ) → AreSome ns → AreSome (drop i ns)
rest_some [] zero s = tt
rest_some [] (suc i) s = tt
rest_some (n ∷ ns) zero s = s
rest_some (n ∷ ns) (suc i) s = rest_some ns i s.1

-- ---- arrays of a table

pub array_layout : (cs : List ClType) (elem t : TypeId) (ns : List ℕ) → AreBuilt [] cs → IsArrayOf cs elem ns t → tree_of cs t.0 ≡ array_tree (tree_of cs elem.0) ns
array_layout cs elem t ns b (no_array t0) = refl
array_layout cs elem t ns b (array elem0 inner t0 n rest h at) = tree_found cs t.0 (ty.Array inner n) b at ∙ ap (λ z. Array z n) (array_layout cs elem inner rest b h)

pub array_known : (cs : List ClType) (elem t : TypeId) (ns : List ℕ) → IsKnown cs elem → IsArrayOf cs elem ns t → IsKnown cs t
array_known cs elem t ns k (no_array t0) = k
array_known cs elem t ns k (array elem0 inner t0 n rest h at) = at_known cs (ty.Array inner n) t at

pub array_object : (cs : List ClType) (elem t : TypeId) (ns : List ℕ) → is_object (shape_of cs elem) ≡ true → IsArrayOf cs elem ns t → is_object (shape_of cs t) ≡ true
array_object cs elem t ns o (no_array t0) = o
array_object cs elem t ns o (array elem0 inner t0 n rest h at) = ap (λ z. is_object (shape_in cs z)) at

-- a table that a refusal left as it was
pub refused_grows : (first now new : List ClType) → Grows first now → new ≡ now → Grows first new
refused_grows first now new g e = subst (Grows first) (sym e) g

-- the arrays from the innermost number to the one at an index
pub record ArraysSoFar (first now : List ClType) (elem : TypeId) (ns : List ℕ) (at : ℕ) (t : TypeId) : Type 0 where
  pub low : at ≤ length ns
  pub built : From now (λ more. IsArrayOf more elem (drop at ns) t)
  pub known : IsKnown first elem
  pub object : is_object (shape_of first elem) ≡ true
  pub some : AreSome ns
  pub fits : product ns * size_of (tree_of first elem.0) ≤ 65536
  pub start : IsTable first
  pub grown : Grows first now

pub arrays_start : (cs : List ClType) (elem : TypeId) (ns : List ℕ) (at : ℕ) → at ≡ length ns → IsTable cs → IsKnown cs elem → is_object (shape_of cs elem) ≡ true → AreSome ns → product ns * size_of (tree_of cs elem.0) ≤ 65536 → ArraysSoFar cs cs elem ns at elem
arrays_start cs elem ns at all b k o s f = record {
  low = omega arith;
  built = λ more m. subst (λ z. IsArrayOf more elem z elem) (sym (dropped_all ns at (omega arith))) (no_array elem);
  known = k;
  object = o;
  some = s;
  fits = f;
  start = b;
  grown = grows_itself cs b;
}

pub arrays_end : (first now : List ClType) (elem t : TypeId) (ns : List ℕ) (at : ℕ) → ArraysSoFar first now elem ns at t → at ≤ 0 → From now (λ more. IsArrayOf more elem ns t)
arrays_end first now elem t ns at h done = let none : at ≡ 0 = omega arith in λ more m. subst (λ k. IsArrayOf more elem (drop k ns) t) none (h.built more m)

-- the number before an index
pub number_before : (ns : List ℕ) (at : ℕ) → 0 < at → at ≤ length ns → drop (at - 1) ns ≡ get_or ns (at - 1) 0 ∷ drop at ns
number_before ns at some low =
    let next : suc (at - 1) ≡ at = omega arith in
    drop-cons ns (at - 1) 0 (omega arith) ∙ ap (λ k. get_or ns (at - 1) 0 ∷ drop k ns) next

module _ (first now : List ClType) (elem t : TypeId) (ns : List ℕ) (at : ℕ) (h : ArraysSoFar first now elem ns at t) where
  now_built : IsArrayOf now elem (drop at ns) t
  now_built = h.built now ([], sym (append-nil now))

  elem_layout : tree_of now elem.0 ≡ tree_of first elem.0
  elem_layout = layout_stays first now elem h.grown.grown h.known

  elem_object : is_object (shape_of now elem) ≡ true
  elem_object = ap is_object (shape_stays first now elem h.start h.grown.grown h.known) ∙ h.object

  inner_object : is_object (shape_of now t) ≡ true
  inner_object = array_object now elem t (drop at ns) elem_object now_built

  inner_layout : tree_of now t.0 ≡ array_tree (tree_of first elem.0) (drop at ns)
  inner_layout = array_layout now elem t (drop at ns) h.grown.table.built now_built ∙ ap (λ z. array_tree z (drop at ns)) elem_layout

  whole_low : size_of (array_tree (tree_of first elem.0) ns) ≤ 65536
  whole_low = subst (λ z. z ≤ 65536) (sym (array_size (tree_of first elem.0) ns)) h.fits

  elem_some : 0 < size_of (tree_of first elem.0)
  elem_some = size_some (length first) first elem.0 h.start.built (object_sized first elem h.object) h.known

  module _ (to n : ℕ) (next : drop to ns ≡ n ∷ drop at ns) (lower : to ≤ at) where
    outer_layout : tree_from (trees now) (ty.Array t n) ≡ array_tree (tree_of first elem.0) (drop to ns)
    outer_layout = ap (λ z. Array z n) inner_layout ∙ ap (array_tree (tree_of first elem.0)) (sym next)

    outer_low : size_of (array_tree (tree_of first elem.0) (drop to ns)) ≤ 65536
    outer_low = let l = rest_low (tree_of first elem.0) ns to h.some in let w = whole_low in omega (arith, l, w)

    pub number_some : 0 < n
    number_some = let s : AreSome (n ∷ drop at ns) = subst AreSome next (rest_some ns to h.some) in s.0

    -- the number fits
    pub number_low : n ≤ 65536
    number_low =
        let l : n * size_of (array_tree (tree_of first elem.0) (drop at ns)) ≤ 65536 = subst (λ z. size_of (array_tree (tree_of first elem.0) z) ≤ 65536) next outer_low in
        let s : AreSome (n ∷ drop at ns) = subst AreSome next (rest_some ns to h.some) in
        let p = array_some (tree_of first elem.0) (drop at ns) elem_some s.1 in
        let m = mul-le n 1 n (size_of (array_tree (tree_of first elem.0) (drop at ns))) (omega arith) p in
        omega (arith, l, m)

    pub array_built : IsBuilt now (ty.Array t n)
    array_built = (object_sized now t inner_object, number_some)

    array_joins : MayJoin now (ty.Array t n)
    array_joins = λ all. inner_object

    never_large : IsOver (tree_from (trees now) (ty.Array t n)) TooLarge → ⊥
    never_large over = let l = outer_low in let o : 65536 < size_of (array_tree (tree_of first elem.0) (drop to ns)) = subst (λ z. 65536 < size_of z) outer_layout over in omega (arith, l, o)

    pub arrays_next : (new : List ClType) (u : TypeId) (r : Result TypeId TypeStop) → IsTable new → r ≡ Ok u → IfOk r (λ v. Interned now new (ty.Array t n) v.0) → OnErr r (new ≡ now) → ArraysSoFar first new elem ns to u
    arrays_next new u r b is i e =
        let g = interned_grows now new (ty.Array t n) r h.grown.table b array_built array_joins i e in
        let at_new = interned_at now new (ty.Array t n) r i in
        let at_u : IsAt new (ty.Array t n) u = subst (λ z. IfOk z (IsAt new (ty.Array t n))) is at_new in
        record {
          low = let l = h.low in omega (arith, l, lower);
          built = λ more m. subst (λ z. IsArrayOf more elem z u) (sym next) (array elem t u n (drop at ns) (h.built more (grown_twice now new more g.grown m)) (at_stays new more (ty.Array t n) u m at_u));
          known = h.known;
          object = h.object;
          some = h.some;
          fits = h.fits;
          start = h.start;
          grown = grows_twice first now new h.grown g;
        }

    pub arrays_grows : (new : List ClType) (r : Result TypeId TypeStop) → IsTable new → IfOk r (λ v. Interned now new (ty.Array t n) v.0) → OnErr r (new ≡ now) → Grows first new
    arrays_grows new r b i e = grows_twice first now new h.grown (interned_grows now new (ty.Array t n) r h.grown.table b array_built array_joins i e)

    pub arrays_out : (new : List ClType) (s : TypeStop) → IsGrown first new → IsOver (tree_from (trees now) (ty.Array t n)) s → ArraysStop new elem ns s
    arrays_out new TooLarge g over = never_large over
    arrays_out new TooDeep g over = λ more m.
        let deep : 16 < depth_of (array_tree (tree_of first elem.0) (drop to ns)) = subst (λ z. 16 < depth_of z) outer_layout over.1 in
        let l = rest_shallow (tree_of first elem.0) ns to in
        subst (λ z. 16 < depth_of (array_tree z ns)) (sym (layout_stays first more elem (grown_twice first new more g m) h.known)) (let d : 16 < depth_of (array_tree (tree_of first elem.0) ns) = omega (arith, deep, l) in d)
    arrays_out new NoMemory g over = tt
