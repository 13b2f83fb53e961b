-- The type of a declared name: there is one, and it is an array where the name has lengths.
use Rattle.std.proofs.Common.{◌≡◌, ℕ, List, [], ◌∷◌, refl, sym, ap, ◌∙◌, subst, Bool, true, false, not, ◌&&◌, true≢false, Option, Some, None, slice_get}
use Rattle.cl_types.specs.declared.types.ClType.{ClType}
use Rattle.cl_types.specs.declared.types.ClType.TheVariants as ty
use Rattle.cl_types.specs.declared.types.TypeId.{TypeId}
use Rattle.cl_types.specs.Table.{IsTable}
use Rattle.cl_ast.specs.declared.expression.Qual.{Qual}
use Rattle.cl_tree.specs.declared.shape.Shape.{Shape}
use Rattle.cl_tree.specs.declared.shape.Shape.TheVariants as shape
use Rattle.cl_tree.specs.Facts.{same_elements}
use Rattle.cl_tree.specs.Shapes.{holds_elements, shape_in, shape_of, is_void, is_array, is_struct}
use Rattle.cl_tree.specs.Units.{is_object}
use Rattle.cl_rules.specs.declared.rule.Qualified.{Qualified}
use Rattle.cl_rules.specs.declared.rule.Want.{Want}
use Rattle.cl_rules.specs.declared.rule.Want.TheVariants as want
use Rattle.cl_rules.specs.Calls.{pointer_to}
use Rattle.cl_words.specs.declared.naming.Length.{Length}
use Rattle.cl_words.specs.declared.naming.Length.TheVariants.{Long, Open, Wrong}
use Rattle.cl_words.specs.declared.naming.Sketch.{Sketch}
use Rattle.cl_words.specs.Words.{has_restrict, sketch, is_open, has_lengths, is_no_element, numbers}
use Rattle.cl_make.specs.Ready.{IsReadyType}
use Rattle.cl_make.specs.Wanted.{IsArrayOf, no_array, array, IsWanted, by_number, by_shape, IsDeclaredAs}
use Rattle.cl_laws.proofs.Fitted.{same_types}
use Rattle.cl_laws.proofs.SameTypes.{shape_wanted, number_wanted, same_wanted}

-- ---- the type of a declared name

-- what is before the lengths of a name: a type by its number, or a pointer by its shape
abbrev pub IsTold : Want → Type 0
IsTold (want.Of s) = is_struct s ≡ false
IsTold _ = Unit {0}

pub sketch_told : (q : Qualified) (star : Option (List Qual)) (ls : List Length) → IsTold (sketch q star ls).of
sketch_told q None ls = tt
sketch_told q (Some qs) ls = refl

own_unwanted : (cs : List ClType) (w : Want) (t : TypeId) → IsWanted cs w t → w ≡ want.Own → ⊥
own_unwanted cs w t (by_number u k) e = cc
own_unwanted cs w t (by_shape s u k f) e = cc

record IsFirst (cs : List ClType) (elem : TypeId) (n : ℕ) (ns : List ℕ) (u : TypeId) : Type 0 where
  of : TypeId
  arrays : IsArrayOf cs elem ns of
  at : slice_get cs u.0 ≡ Some (ty.Array of n)

first_array : (cs : List ClType) (elem : TypeId) (n : ℕ) (ns : List ℕ) (u : TypeId) → IsArrayOf cs elem (n ∷ ns) u → IsFirst cs elem n ns u
first_array cs _ _ _ _ (array elem t u n ns h e) = record { of = t; arrays = h; at = e }

none_array : (cs : List ClType) (elem u : TypeId) → IsArrayOf cs elem [] u → u ≡ elem
none_array cs _ _ (no_array t) = refl

module _ (cs : List ClType) (b : IsTable cs) where
  one_wanted : (w : Want) (t u : TypeId) → IsTold w → IsWanted cs w t → IsWanted cs w u → t ≡ u
  one_wanted want.Own t u n x y = absurd (own_unwanted cs want.Own t x refl)
  one_wanted (want.Type v) t u n x y = number_wanted cs v t x ∙ sym (number_wanted cs v u y)
  one_wanted (want.Of s) t u n x y = same_wanted cs s t u b n x y

  arrays_one : (elem : TypeId) (ns : List ℕ) (t u : TypeId) → IsArrayOf cs elem ns t → IsArrayOf cs elem ns u → t ≡ u
  arrays_one elem [] t u x y = none_array cs elem t x ∙ sym (none_array cs elem u y)
  arrays_one elem (n ∷ ns) t u x y =
      let p = first_array cs elem n ns t x in
      let q = first_array cs elem n ns u y in
      let e = arrays_one elem ns p.of q.of p.arrays q.arrays in
      let d = b.distinct t.0 u.0 (ty.Array p.of n) p.at (q.at ∙ ap (λ z. Some (ty.Array z n)) (sym e)) in
      λ i. record { 0 = d i }

  one_element : (k : Sketch) (m n : ℕ) (t u : TypeId) → IsTold k.of → (x : IsDeclaredAs cs k m t) (y : IsDeclaredAs cs k n u) → x.elem ≡ y.elem
  one_element k m n t u o x y = one_wanted k.of x.elem y.elem o x.wanted y.wanted

  pub declared_one : (k : Sketch) (n : ℕ) (t u : TypeId) → IsTold k.of → IsDeclaredAs cs k n t → IsDeclaredAs cs k n u → t ≡ u
  declared_one k n t u o x y =
      let e = one_element k n n t u o x y in
      arrays_one x.elem (numbers n k.lengths) t u x.arrays (subst (λ z. IsArrayOf cs z (numbers n k.lengths) u) (sym e) y.arrays)

  -- arrays of the same elements, of which the first length was missing
  pub record AreOpened (m n : ℕ) (t u : TypeId) : Type 0 where
    pub elem : TypeId
    pub first : slice_get cs t.0 ≡ Some (ty.Array elem m)
    pub second : slice_get cs u.0 ≡ Some (ty.Array elem n)

  open_arrays : (ls : List Length) (elem : TypeId) (m n : ℕ) (t u : TypeId) → is_open ls ≡ true → IsArrayOf cs elem (numbers m ls) t → IsArrayOf cs elem (numbers n ls) u → AreOpened m n t u
  open_arrays [] elem m n t u o x y = absurd (true≢false (sym o))
  open_arrays (Long k ∷ ls) elem m n t u o x y = absurd (true≢false (sym o))
  open_arrays (Wrong ∷ ls) elem m n t u o x y = absurd (true≢false (sym o))
  open_arrays (Open ∷ ls) elem m n t u o x y =
      let p = first_array cs elem m (numbers 1 ls) t x in
      let q = first_array cs elem n (numbers 1 ls) u y in
      let e = arrays_one elem (numbers 1 ls) p.of q.of p.arrays q.arrays in
      record { elem = p.of; first = p.at; second = q.at ∙ ap (λ z. Some (ty.Array z n)) (sym e) }

  pub opened : (k : Sketch) (m n : ℕ) (t u : TypeId) → IsTold k.of → is_open k.lengths ≡ true → IsDeclaredAs cs k m t → IsDeclaredAs cs k n u → AreOpened m n t u
  opened k m n t u o missing x y =
      let e = one_element k m n t u o x y in
      open_arrays k.lengths x.elem m n t u missing x.arrays (subst (λ z. IsArrayOf cs z (numbers n k.lengths) u) (sym e) y.arrays)

  -- the elements of an array whose first length was missing are those of the list
  pub opened_shape : (m n : ℕ) (t u elem : TypeId) (len : ℕ) (nested : Bool) → AreOpened m n t u → shape_of cs t ≡ shape.Array elem len nested → shape_of cs u ≡ shape.Array elem n nested
  opened_shape m n t u elem len nested h e =
      let f : shape.Array h.elem m (holds_elements (slice_get cs h.elem.0)) ≡ shape.Array elem len nested = sym (ap (shape_in cs) h.first) ∙ e in
      let g : h.elem ≡ elem = cc in
      let r : holds_elements (slice_get cs h.elem.0) ≡ nested = cc in
      ap (shape_in cs) h.second ∙ (λ i. shape.Array (g i) n (r i))

  pub opened_elements : (m n : ℕ) (t u : TypeId) → AreOpened m n t u → same_elements (shape_of cs t) (shape_of cs u) ≡ true
  opened_elements m n t u h =
      (λ i. same_elements (shape_in cs (h.first i)) (shape_in cs (h.second i))) ∙ same_types h.elem h.elem refl

-- without a missing length the number of elements is the one that is written
closed : (m n : ℕ) (ls : List Length) → is_open ls ≡ false → numbers m ls ≡ numbers n ls
closed m n [] o = refl
closed m n (Long k ∷ ls) o = refl
closed m n (Wrong ∷ ls) o = refl
closed m n (Open ∷ ls) o = absurd (true≢false o)

pub closed_declared : (cs : List ClType) (k : Sketch) (m n : ℕ) (t : TypeId) → is_open k.lengths ≡ false → IsDeclaredAs cs k m t → IsDeclaredAs cs k n t
closed_declared cs k m n t o x = record { elem = x.elem; wanted = x.wanted; arrays = subst (λ z. IsArrayOf cs x.elem z t) (closed m n k.lengths o) x.arrays }

-- ---- its shape

-- an array, where it has lengths, and otherwise what is before them
abbrev pub IsShapeOf : Bool → Shape → Shape → Type 0
IsShapeOf true own s = is_array s ≡ true
IsShapeOf false own s = s ≡ own

pub plain_shape : (cs : List ClType) (q : Qualified) (star : Option (List Qual)) (ls : List Length) (t : TypeId) → IsReadyType cs q → IsWanted cs (sketch q star ls).of t → shape_of cs t ≡ (sketch q star ls).shape
plain_shape cs q None ls t r x = ap (shape_of cs) (number_wanted cs q.ty t x) ∙ sym r.shape
plain_shape cs q (Some qs) ls t r x = shape_wanted cs (pointer_to q (has_restrict qs)) t x

arrays_shape : (cs : List ClType) (ls : List Length) (own : Shape) (n : ℕ) (elem t : TypeId) → shape_of cs elem ≡ own → IsArrayOf cs elem (numbers n ls) t → IsShapeOf (has_lengths ls) own (shape_of cs t)
arrays_shape cs [] own n elem t e x = ap (shape_of cs) (none_array cs elem t x) ∙ e
arrays_shape cs (k ∷ ls) own n elem t e x = ap (λ o. is_array (shape_in cs o)) (first_array cs elem _ (numbers 1 ls) t x).at

sketch_lengths : (q : Qualified) (star : Option (List Qual)) (ls : List Length) → (sketch q star ls).lengths ≡ ls
sketch_lengths q None ls = refl
sketch_lengths q (Some qs) ls = refl

pub declared_shape : (cs : List ClType) (q : Qualified) (star : Option (List Qual)) (ls : List Length) (n : ℕ) (t : TypeId) → IsReadyType cs q → IsDeclaredAs cs (sketch q star ls) n t → IsShapeOf (has_lengths (sketch q star ls).lengths) (sketch q star ls).shape (shape_of cs t)
declared_shape cs q star ls n t r x = arrays_shape cs (sketch q star ls).lengths (sketch q star ls).shape n x.elem t (plain_shape cs q star ls x.elem r x.wanted) x.arrays

pub array_no_void : (s : Shape) → is_array s ≡ true → is_void s ≡ false
array_no_void shape.Void e = absurd (true≢false (sym e))
array_no_void shape.Bool e = refl
array_no_void (shape.Integers t) e = refl
array_no_void (shape.Array elem len nested) e = refl
array_no_void shape.Struct e = refl
array_no_void (shape.Pointer s to ro re) e = refl

pub array_object : (s : Shape) → is_array s ≡ true → is_object s ≡ true
array_object shape.Void e = absurd (true≢false (sym e))
array_object shape.Bool e = absurd (true≢false (sym e))
array_object (shape.Integers t) e = refl
array_object (shape.Array elem len nested) e = refl
array_object shape.Struct e = refl
array_object (shape.Pointer s to ro re) e = absurd (true≢false (sym e))

pub element_object : (s : Shape) → is_no_element s ≡ false → is_object s ≡ true
element_object shape.Void e = absurd (true≢false e)
element_object shape.Bool e = absurd (true≢false e)
element_object (shape.Integers t) e = refl
element_object (shape.Array elem len nested) e = refl
element_object shape.Struct e = refl
element_object (shape.Pointer s to ro re) e = absurd (true≢false e)

pub shape_no_void : (h : Bool) (own s : Shape) → IsShapeOf h own s → (not h && is_void own) ≡ false → is_void s ≡ false
shape_no_void true own s x e = array_no_void s x
shape_no_void false own s x e = ap is_void x ∙ e

pub shape_object : (h : Bool) (own s : Shape) → IsShapeOf h own s → (not h && is_no_element own) ≡ false → is_object s ≡ true
shape_object true own s x e = array_object s x
shape_object false own s x e = ap is_object x ∙ element_object own e
