-- What the rules of operators and assignments make of operands is typed by these.
use Rattle.std.proofs.Common.{◌≡◌, ℕ, [], ◌∷◌, refl, sym, ap, ◌∙◌, subst, Bool, true, false, not, ◌&&◌, ◌||◌, if◌then◌else◌, true≢false, nat_eq, nat_lt, inl, inr, Option, Some, None}
use Rattle.std.specs.Cmp.{first_so, second_so}
use Rattle.std.proofs.lemmas.Bool.{and_from, or_left, or_right, or_parts, not-false, eqb-true, eq-eqb}
use Rattle.cl_types.specs.declared.space.Space.{Space}
use Rattle.cl_types.specs.declared.operator.UnOp.{UnOp}
use Rattle.cl_types.specs.declared.operator.UnOp.TheVariants as un
use Rattle.cl_types.specs.declared.operator.BinOp.{BinOp}
use Rattle.cl_types.specs.declared.operator.BinOp.TheVariants as bin
use Rattle.cl_types.specs.declared.types.TypeId.{TypeId}
use Rattle.cl_types.specs.Table.{IsTable}
use Rattle.cl_builtins.specs.declared.kind.Gentype.{Gentype}
use Rattle.cl_builtins.specs.Found.{IsKnown}
use Rattle.cl_builtins.specs.Kinds.{int}
use Rattle.cl_tree.specs.declared.shape.Shape.{Shape}
use Rattle.cl_tree.specs.declared.shape.Shape.TheVariants as shape
use Rattle.cl_tree.specs.declared.expression.Facts.{Facts}
use Rattle.cl_tree.specs.Facts.{Lists, when, shape_at, points_into, converts_to, is_writable, has_address, is_pointer_to, is_into, is_promoted, is_amount, is_plain_pointer, gives_relation, of_type, takes_right, is_shifted, moves}
use Rattle.cl_tree.specs.Facts as tree
use Rattle.cl_tree.specs.Shapes.{shape_of, same_type, same_space, is_void, is_bool, is_array, is_pointer, is_number, is_vector, is_type, is_steppable, takes_value, converts, promoted, rank, relation_type}
use Rattle.cl_tree.specs.Units.{are_allowed}
use Rattle.cl_rules.specs.declared.rule.Amount.{Amount}
use Rattle.cl_rules.specs.declared.rule.Amount.TheVariants.{Wanted, NoAmount, TooWide}
use Rattle.cl_rules.specs.declared.rule.Changing.{Changing}
use Rattle.cl_rules.specs.declared.rule.Head.TheVariants as head
use Rattle.cl_rules.specs.declared.rule.Judged.TheVariants.{Makes}
use Rattle.cl_rules.specs.declared.rule.Made.{Made}
use Rattle.cl_rules.specs.declared.rule.Meeting.{Meeting}
use Rattle.cl_rules.specs.declared.rule.Meeting.TheVariants.{Meet, Unlike, Outranked}
use Rattle.cl_rules.specs.declared.rule.Operand.{Operand}
use Rattle.cl_rules.specs.declared.rule.Want.TheVariants as want
use Rattle.cl_rules.specs.Operands.{unless, value, place, part, integers, seen, to_array, same_target, common, adds_const, type_of, is_arithmetic, no_value, no_pointer, type_at}
use Rattle.cl_rules.specs.Operators.{signed, negated, dereferenced, space_or_private, addressed, is_fixed, stepped, unary, meet, both, own_types, calculated, apart, compared, related, joined, amount_beside, amount, is_none, outranks, amount_wanted, shifted, moved, added, subtracted, binary, assigned, changing, fits, unfit, meets_back, shifts_back, adds_back, subtracts_back, calculates_back, changes, assignment}
use Rattle.cl_make.specs.Ready.{IsReadyOperand}
use Rattle.cl_make.specs.Wanted.{IsWanted}
use Rattle.cl_laws.specs.Fitting.{IsAfter, IsConvertible, RuleFits}
use Rattle.cl_laws.proofs.SameTypes.{shape_wanted, number_wanted}
use Rattle.cl_laws.proofs.Fitted.{by_test, test_kept, tests_kept, kept_when, Fits, FitsIf, fits_made, fits_made_if, fits_unless, after_own, after_wanted, fits_one, fits_two, same_types, one_type_wanted, into_itself, into_same, into_other, Becomes, integers_convertible, leads, pointer_convertible, seen_leads, common_leads_first, common_leads_second, seen_plain, common_plain, plain_no_struct}
use Rattle.cl_laws.proofs.IntegersFit.{same_itself, vector_is, vector_count, number_count, becomes_arithmetic, promoted_promoted, many_unpromoted, many_promoted, one_promoted, becomes_promoted, Joins, meet_joins, Returns, meet_returns}

-- ---- places

not_fixed : (o : Operand) → is_fixed o ≡ false → is_writable o.facts.lies ≡ true
not_fixed o h = not-false (is_writable o.facts.lies) (or_parts o.readonly (not (is_writable o.facts.lies)) h).1

-- a place that has an address lies somewhere, where a pointer to it points
lies_somewhere : (lies : Option Space) → tree.is_some lies ≡ true → is_into (space_or_private lies) lies ≡ true
lies_somewhere None h = absurd (true≢false (sym h))
lies_somewhere (Some s) h = into_itself s

address_lies : (f : Facts) (s : Shape) → has_address f s ≡ true → tree.is_some f.lies ≡ true
address_lies f s h =
    let lies = tree.is_some f.lies in
    let c = not f.component in
    let v = not (is_void s) in
    let b = not (is_bool s) in
    let a = not (is_array s) in
    first_so lies c (first_so (lies && c) v (first_so (lies && c && v) b (first_so (lies && c && v && b) a (first_so (lies && c && v && b && a) (not (is_pointer s)) h))))

-- ---- what shapes say

moves_pointer : (s n : Shape) → is_pointer s ≡ true → is_number n ≡ true → moves s n ≡ true
moves_pointer (shape.Pointer z to readonly restricted) n p h = h
moves_pointer s n p h = absurd (true≢false (sym p))

shifted_amount : (s v : Shape) → is_arithmetic s ≡ true → is_amount (shape.Integers (promoted (type_of s))) v ≡ true → is_shifted s v ≡ true
shifted_amount shape.Bool v a h = h
shifted_amount (shape.Integers t) v a h = h
shifted_amount s v a h = absurd (true≢false (sym a))

-- ---- shifts and compound assignments

-- the type that a shift wants of its amount, which then is one of the shifted value's kind
abbrev Amounts : Lists → Shape → Facts → Amount → Type 0
Amounts l s f (Wanted w) = Becomes (promoted (type_of s)) s × IsConvertible l w f × ((g : Facts) → IsAfter l w f g → is_amount (shape.Integers (promoted (type_of s))) (shape_at l g) ≡ true)
Amounts l s f NoAmount = Unit {0}
Amounts l s f TooWide = Unit {0}

-- what a compound assignment wants of its value, which then is what its operator takes
abbrev Backs : Lists → BinOp → Shape → Facts → Changing → Type 0
Backs l op s f c = c.no_type ≡ false → c.outranked ≡ false → c.no_way_back ≡ false → IsConvertible l c.wanted f × ((g : Facts) → IsAfter l c.wanted f g → tree.changes op s (shape_at l g) ≡ true)

-- the distance of two pointers converts back to neither
abbrev distance : Operand → Operand → Changing
distance p v = record { no_type = not (same_target p.shape (seen v)); to_arrays = to_array v; outranked = false; no_way_back = true; wanted = want.Own }

module _ (l : Lists) (b : IsTable l.types) where
  -- what holds of an operand's shape holds of its type's
  here : (P : Shape → Type 0) (o : Operand) → IsReadyOperand l.types o → P o.shape → P (shape_at l o.facts)
  here P o r h = subst P r.shape h

  is_int : (ty : TypeId) → IsWanted l.types (integers int) ty → is_type int (shape_of l.types ty) ≡ true
  is_int ty w = ap (is_type int) (shape_wanted l.types (shape.Integers int) ty w)

  -- a value of the type wanted
  wanted_integers : (t : Gentype) (x : Facts) (P : Shape → Type 0) → IsWanted l.types (integers t) x.ty → P (shape.Integers t) → P (shape_at l x)
  wanted_integers t x P w h = subst P (sym (shape_wanted l.types (shape.Integers t) x.ty w)) h

  -- ---- operators on one operand

  signed_fits : (op : UnOp) (o : Operand) → IsReadyOperand l.types o → ((x : Facts) (ty : TypeId) → (is_promoted (shape_at l x) && same_type ty x.ty) ≡ true → tree.unary op l ty x ≡ Some (tree.value ty)) → Fits l (o.facts ∷ []) (signed op o)
  signed_fits op o r n =
      let t = promoted (type_of o.shape) in
      fits_unless l (o.facts ∷ []) ((308, not (is_arithmetic o.shape)) ∷ []) (value (integers t ∷ []) (head.Unary op) (integers t))
      (λ e. let a = not-false (is_arithmetic o.shape) (test_kept (308, not (is_arithmetic o.shape)) [] e) in
      fits_one l (value (integers t ∷ []) (head.Unary op) (integers t)) (integers t) o.facts refl (integers_convertible l o.facts t b r.known (here (Becomes t) o r (becomes_promoted o.shape a)))
      (λ x ty k w. let v = after_wanted l (integers t) o.facts x tt k in
      n x ty (and_from (is_promoted (shape_at l x)) (same_type ty x.ty) (wanted_integers t x (λ s. is_promoted s ≡ true) v (promoted_promoted (type_of o.shape))) (one_type_wanted l (shape.Integers t) ty x.ty b refl w v))))

  negated_fits : (o : Operand) → IsReadyOperand l.types o → Fits l (o.facts ∷ []) (negated o)
  negated_fits o r =
      fits_unless l (o.facts ∷ []) ((308, not (is_number o.shape)) ∷ []) (value (want.Own ∷ []) (head.Unary un.LogicalNot) (integers int))
      (λ e. let h = here (λ s. is_number s ≡ true) o r (not-false (is_number o.shape) (test_kept (308, not (is_number o.shape)) [] e)) in
      fits_one l (value (want.Own ∷ []) (head.Unary un.LogicalNot) (integers int)) want.Own o.facts refl tt
      (λ x ty k w. subst (λ z. tree.unary un.LogicalNot l ty z ≡ Some (tree.value ty)) (after_own l o.facts x k)
      (kept_when (is_number (shape_at l o.facts) && is_type int (shape_of l.types ty)) (tree.value ty) (and_from (is_number (shape_at l o.facts)) (is_type int (shape_of l.types ty)) h (is_int ty w)))))

  reached_fits : (o : Operand) (s : Shape) → shape_at l o.facts ≡ s → Fits l (o.facts ∷ []) (dereferenced o s)
  reached_fits o (shape.Pointer z to readonly restricted) e =
      fits_one l (place (want.Own ∷ []) (head.Unary un.Deref) (want.Type to) z readonly) want.Own o.facts refl tt
      (λ x ty k w. subst (λ y. tree.unary un.Deref l ty y ≡ Some (tree.place ty z)) (after_own l o.facts x k)
      (ap (tree.dereferenced ty o.facts) e ∙ kept_when (same_type ty to) (tree.place ty z) (same_types ty to (number_wanted l.types to ty w))))
  reached_fits o (shape.Array elem len nested) e =
      fits_one l (part (want.Own ∷ []) (head.Unary un.Deref) (want.Type elem) o) want.Own o.facts refl tt
      (λ x ty k w. subst (λ y. tree.unary un.Deref l ty y ≡ Some (tree.part ty o.facts)) (after_own l o.facts x k)
      (ap (tree.dereferenced ty o.facts) e ∙ kept_when (same_type ty elem) (tree.part ty o.facts) (same_types ty elem (number_wanted l.types elem ty w))))
  reached_fits o s e = tt

  dereferenced_fits : (o : Operand) → IsReadyOperand l.types o → Fits l (o.facts ∷ []) (dereferenced o o.shape)
  dereferenced_fits o r = reached_fits o o.shape (sym r.shape)

  addressed_fits : (o : Operand) → IsReadyOperand l.types o → Fits l (o.facts ∷ []) (addressed o)
  addressed_fits o r =
      let p = shape.Pointer (space_or_private o.facts.lies) o.facts.ty o.readonly false in
      fits_unless l (o.facts ∷ []) ((312, not (has_address o.facts o.shape)) ∷ []) (value (want.Own ∷ []) (head.Unary un.Address) (want.Of p))
      (λ e. let h = not-false (has_address o.facts o.shape) (test_kept (312, not (has_address o.facts o.shape)) [] e) in
      fits_one l (value (want.Own ∷ []) (head.Unary un.Address) (want.Of p)) want.Own o.facts refl tt
      (λ x ty k w. subst (λ z. tree.unary un.Address l ty z ≡ Some (tree.value ty)) (after_own l o.facts x k)
      (kept_when (has_address o.facts (shape_at l o.facts) && is_pointer_to o.facts (shape_of l.types ty)) (tree.value ty) (and_from (has_address o.facts (shape_at l o.facts)) (is_pointer_to o.facts (shape_of l.types ty))
      (here (λ s. has_address o.facts s ≡ true) o r h)
      (subst (λ s. is_pointer_to o.facts s ≡ true) (sym (shape_wanted l.types p ty w))
      (and_from (is_into (space_or_private o.facts.lies) o.facts.lies && same_type o.facts.ty o.facts.ty) true (and_from (is_into (space_or_private o.facts.lies) o.facts.lies) (same_type o.facts.ty o.facts.ty) (lies_somewhere o.facts.lies (address_lies o.facts o.shape h)) (same_types o.facts.ty o.facts.ty refl)) refl))))))

  stepped_fits : (op : UnOp) (o : Operand) → IsReadyOperand l.types o → ((x : Facts) (ty : TypeId) → tree.unary op l ty x ≡ tree.stepped l ty x) → Fits l (o.facts ∷ []) (stepped op o)
  stepped_fits op o r n =
      let fixed : ℕ × Bool = (310, is_fixed o) in
      fits_unless l (o.facts ∷ []) ((308, not (is_steppable o.shape)) ∷ fixed ∷ []) (value (want.Own ∷ []) (head.Unary op) (want.Type o.facts.ty))
      (λ e. let h = here (λ s. is_steppable s ≡ true) o r (not-false (is_steppable o.shape) (test_kept (308, not (is_steppable o.shape)) (fixed ∷ []) e)) in
      let f = not_fixed o (test_kept fixed [] (tests_kept (308, not (is_steppable o.shape)) (fixed ∷ []) e)) in
      fits_one l (value (want.Own ∷ []) (head.Unary op) (want.Type o.facts.ty)) want.Own o.facts refl tt
      (λ x ty k w. subst (λ z. tree.unary op l ty z ≡ Some (tree.value ty)) (after_own l o.facts x k)
      (n o.facts ty ∙ kept_when (is_writable o.facts.lies && is_steppable (shape_at l o.facts) && same_type ty o.facts.ty) (tree.value ty)
      (and_from (is_writable o.facts.lies && is_steppable (shape_at l o.facts)) (same_type ty o.facts.ty) (and_from (is_writable o.facts.lies) (is_steppable (shape_at l o.facts)) f h) (same_types ty o.facts.ty (number_wanted l.types o.facts.ty ty w))))))

  -- a value of a promoted type
  promoting : (x : Facts) (ty : TypeId) → (is_promoted (shape_at l x) && same_type ty x.ty) ≡ true → when (is_promoted (shape_at l x) && same_type ty x.ty) (tree.value ty) ≡ Some (tree.value ty)
  promoting x ty h = kept_when (is_promoted (shape_at l x) && same_type ty x.ty) (tree.value ty) h

  unary_judged : (op : UnOp) (o : Operand) → IsReadyOperand l.types o → FitsIf l (o.facts ∷ []) (unary op o)
  unary_judged un.Plus o r = signed_fits un.Plus o r promoting
  unary_judged un.Minus o r = signed_fits un.Minus o r promoting
  unary_judged un.Not o r = signed_fits un.Not o r promoting
  unary_judged un.LogicalNot o r = negated_fits o r
  unary_judged un.Deref o r = dereferenced_fits o r
  unary_judged un.Address o r = addressed_fits o r
  unary_judged un.PreInc o r = stepped_fits un.PreInc o r (λ x ty. refl)
  unary_judged un.PreDec o r = stepped_fits un.PreDec o r (λ x ty. refl)
  unary_judged un.PostInc o r = stepped_fits un.PostInc o r (λ x ty. refl)
  unary_judged un.PostDec o r = stepped_fits un.PostDec o r (λ x ty. refl)
  unary_judged un.Sizeof o r = tt

  pub unary_fits : (op : UnOp) (o : Operand) (m : Made) → IsReadyOperand l.types o → unary op o ≡ Some (Makes m) → RuleFits l m (o.facts ∷ [])
  unary_fits op o m r e = fits_made_if l (o.facts ∷ []) (unary op o) m e (unary_judged op o r)

  -- ---- operators between two operands

  operands_join : (x y : Operand) → IsReadyOperand l.types x → IsReadyOperand l.types y → Joins (shape_at l x.facts) (shape_at l y.facts) (meet x.shape y.shape)
  operands_join x y r s = subst (Joins (shape_at l x.facts) (shape_at l y.facts)) (λ i. meet (sym r.shape i) (sym s.shape i)) (meet_joins (shape_at l x.facts) (shape_at l y.facts))

  -- two values of one promoted type, and that type
  integers_after : (t : Gentype) (x y : Facts) (ty : TypeId) → is_promoted (shape.Integers t) ≡ true → IsWanted l.types (integers t) x.ty → IsWanted l.types (integers t) y.ty → IsWanted l.types (integers t) ty → of_type l ty x y ≡ true
  integers_after t x y ty p v w g =
      and_from (is_promoted (shape_at l x) && same_type x.ty y.ty) (same_type ty x.ty)
      (and_from (is_promoted (shape_at l x)) (same_type x.ty y.ty) (wanted_integers t x (λ s. is_promoted s ≡ true) v p) (one_type_wanted l (shape.Integers t) x.ty y.ty b refl v w))
      (one_type_wanted l (shape.Integers t) ty x.ty b refl g v)

  calculated_fits : (op : BinOp) (m : Meeting) (f g : Facts) → IsKnown l.types f.ty → IsKnown l.types g.ty → Joins (shape_at l f) (shape_at l g) m → ((x y : Facts) (ty : TypeId) → of_type l ty x y ≡ true → tree.binary op l ty x y ≡ Some (tree.value ty)) → Fits l (f ∷ g ∷ []) (calculated op m)
  calculated_fits op (Meet t) f g k h j n =
      fits_two l (value (both (integers t)) (head.Binary op) (integers t)) (integers t) (integers t) f g refl (integers_convertible l f t b k j.0) (integers_convertible l g t b h j.1)
      (λ x y ty v w e. n x y ty (integers_after t x y ty j.2 (after_wanted l (integers t) f x tt v) (after_wanted l (integers t) g y tt w) e))
  calculated_fits op Unlike f g k h j n = tt
  calculated_fits op Outranked f g k h j n = tt

  compared_fits : (op : BinOp) (m : Meeting) (f g : Facts) → IsKnown l.types f.ty → IsKnown l.types g.ty → Joins (shape_at l f) (shape_at l g) m → ((x y : Facts) (ty : TypeId) → (same_type x.ty y.ty && gives_relation l ty (shape_at l x)) ≡ true → tree.binary op l ty x y ≡ Some (tree.value ty)) → Fits l (f ∷ g ∷ []) (compared op m)
  compared_fits op (Meet t) f g k h j n =
      fits_two l (value (both (integers t)) (head.Binary op) (integers (relation_type t))) (integers t) (integers t) f g refl (integers_convertible l f t b k j.0) (integers_convertible l g t b h j.1)
      (λ x y ty v w e.
      let vx = after_wanted l (integers t) f x tt v in
      let wy = after_wanted l (integers t) g y tt w in
      n x y ty (and_from (same_type x.ty y.ty) (gives_relation l ty (shape_at l x)) (one_type_wanted l (shape.Integers t) x.ty y.ty b refl vx wy)
      (wanted_integers t x (λ s. gives_relation l ty s ≡ true) vx
      (and_from (is_promoted (shape.Integers t)) (is_type (relation_type t) (shape_of l.types ty)) j.2 (ap (is_type (relation_type t)) (shape_wanted l.types (shape.Integers (relation_type t)) ty e) ∙ same_itself (relation_type t))))))
  compared_fits op Unlike f g k h j n = tt
  compared_fits op Outranked f g k h j n = tt

  joined_fits : (op : BinOp) (x y : Operand) → IsReadyOperand l.types x → IsReadyOperand l.types y → ((f g : Facts) (ty : TypeId) → tree.binary op l ty f g ≡ tree.joined l ty f g) → Fits l (x.facts ∷ y.facts ∷ []) (joined op x y)
  joined_fits op x y r s n =
      let test : ℕ × Bool = (308, not (is_number x.shape && is_number y.shape)) in
      fits_unless l (x.facts ∷ y.facts ∷ []) (test ∷ []) (value own_types (head.Binary op) (integers int))
      (λ e. let h = not-false (is_number x.shape && is_number y.shape) (test_kept test [] e) in
      let u = here (λ z. is_number z ≡ true) x r (first_so (is_number x.shape) (is_number y.shape) h) in
      let v = here (λ z. is_number z ≡ true) y s (second_so (is_number x.shape) (is_number y.shape) h) in
      fits_two l (value own_types (head.Binary op) (integers int)) want.Own want.Own x.facts y.facts refl tt tt
      (λ f g ty j k w. sym (λ i. tree.binary op l ty (after_own l x.facts f j i) (after_own l y.facts g k i)) ∙ n x.facts y.facts ty
      ∙ kept_when (is_number (shape_at l x.facts) && is_number (shape_at l y.facts) && is_type int (shape_of l.types ty)) (tree.value ty)
      (and_from (is_number (shape_at l x.facts) && is_number (shape_at l y.facts)) (is_type int (shape_of l.types ty)) (and_from (is_number (shape_at l x.facts)) (is_number (shape_at l y.facts)) u v) (is_int ty w))))

  number_amounts : (s : Shape) (f : Facts) → IsKnown l.types f.ty → is_number s ≡ true → is_number (shape_at l f) ≡ true → Amounts l s f (Wanted (integers (promoted (type_of (shape_at l f)))))
  number_amounts s f k h n =
      let a = promoted (type_of s) in
      let t = promoted (type_of (shape_at l f)) in
      let one = eqb-true a.count 1 (one_promoted (type_of s) (number_count s h)) in
      let other = eqb-true t.count 1 (one_promoted (type_of (shape_at l f)) (number_count (shape_at l f) n)) in (
        inl h,
        integers_convertible l f t b k (inl n),
        λ g i. wanted_integers t g (λ z. is_amount (shape.Integers a) z ≡ true) (after_wanted l (integers t) f g tt i)
            (and_from (is_promoted (shape.Integers t)) (nat_eq a.count t.count) (promoted_promoted (type_of (shape_at l f))) (eq-eqb a.count t.count (one ∙ sym other))),
      )

  vector_becomes : (s : Shape) → is_vector s ≡ true → Becomes (promoted (type_of s)) s
  vector_becomes s h = inr (vector_is s h ∙ ap shape.Integers (sym (many_unpromoted (type_of s) (vector_count s h))))

  vector_amounts : (s : Shape) (f : Facts) → is_vector s ≡ true → is_vector (shape_at l f) ≡ true → nat_eq (type_of s).count (type_of (shape_at l f)).count ≡ true → Amounts l s f (Wanted want.Own)
  vector_amounts s f h n e =
      let a = promoted (type_of s) in
      let t = type_of (shape_at l f) in (
        vector_becomes s h,
        tt,
        λ g i. subst (λ z. is_amount (shape.Integers a) (shape_at l z) ≡ true) (after_own l f g i)
            (subst (λ z. is_amount (shape.Integers a) z ≡ true) (sym (vector_is (shape_at l f) n))
            (and_from (is_promoted (shape.Integers t)) (nat_eq a.count t.count) (many_promoted t (vector_count (shape_at l f) n)) (ap (λ z. nat_eq z.count t.count) (many_unpromoted (type_of s) (vector_count s h)) ∙ e))),
      )

  beside_amounts : (s : Shape) (f : Facts) → IsKnown l.types f.ty → is_vector s ≡ true → is_number (shape_at l f) ≡ true → Amounts l s f (amount_beside (type_of s) (shape_at l f))
  beside_amounts s f k h n =
      let a = promoted (type_of s) in
      let t = type_of s in
      by_test (Amounts l s f) (nat_lt t.bits (rank (shape_at l f))) TooWide (Wanted (integers t)) (λ e. tt)
      (λ e. (
        vector_becomes s h,
        integers_convertible l f t b k (inl n),
        λ g i. wanted_integers t g (λ z. is_amount (shape.Integers a) z ≡ true) (after_wanted l (integers t) f g tt i)
            (and_from (is_promoted (shape.Integers t)) (nat_eq a.count t.count) (many_promoted t (vector_count s h)) (ap (λ z. nat_eq z.count t.count) (many_unpromoted t (vector_count s h)) ∙ eq-eqb t.count t.count refl)),
      ))

  amount_fits : (s : Shape) (f : Facts) → IsKnown l.types f.ty → Amounts l s f (amount s (shape_at l f))
  amount_fits s f k =
      let v = shape_at l f in
      by_test (Amounts l s f) (is_number s && is_number v) (Wanted (integers (promoted (type_of v)))) _ (λ e. number_amounts s f k (first_so (is_number s) (is_number v) e) (second_so (is_number s) (is_number v) e))
      (λ e. by_test (Amounts l s f) (is_vector s && is_vector v) (if nat_eq (type_of s).count (type_of v).count then Wanted want.Own else NoAmount) _
      (λ e2. by_test (Amounts l s f) (nat_eq (type_of s).count (type_of v).count) (Wanted want.Own) NoAmount (vector_amounts s f (first_so (is_vector s) (is_vector v) e2) (second_so (is_vector s) (is_vector v) e2)) (λ e3. tt))
      (λ e2. by_test (Amounts l s f) (is_vector s && is_number v) (amount_beside (type_of s) v) NoAmount (λ e3. beside_amounts s f k (first_so (is_vector s) (is_number v) e3) (second_so (is_vector s) (is_number v) e3)) (λ e3. tt)))

  shift_fits : (op : BinOp) (f g : Facts) (q : Amount) → IsKnown l.types f.ty → Amounts l (shape_at l f) g q → ((x y : Facts) (ty : TypeId) → tree.binary op l ty x y ≡ tree.shifted l ty x y) → Fits l (f ∷ g ∷ []) (unless ((308, is_none q) ∷ (309, outranks q) ∷ []) (value (integers (promoted (type_of (shape_at l f))) ∷ amount_wanted q ∷ []) (head.Binary op) (integers (promoted (type_of (shape_at l f))))))
  shift_fits op f g (Wanted w) k h n =
      let t = promoted (type_of (shape_at l f)) in
      fits_two l (value (integers t ∷ w ∷ []) (head.Binary op) (integers t)) (integers t) w f g refl (integers_convertible l f t b k h.0) h.1
      (λ x y ty v a e. let vx = after_wanted l (integers t) f x tt v in
      n x y ty ∙ kept_when (is_promoted (shape_at l x) && is_amount (shape_at l x) (shape_at l y) && same_type ty x.ty) (tree.value ty)
      (and_from (is_promoted (shape_at l x) && is_amount (shape_at l x) (shape_at l y)) (same_type ty x.ty)
      (and_from (is_promoted (shape_at l x)) (is_amount (shape_at l x) (shape_at l y)) (wanted_integers t x (λ s. is_promoted s ≡ true) vx (promoted_promoted (type_of (shape_at l f)))) (wanted_integers t x (λ s. is_amount s (shape_at l y) ≡ true) vx (h.2 y a)))
      (one_type_wanted l (shape.Integers t) ty x.ty b refl e vx)))
  shift_fits op f g NoAmount k h n = tt
  shift_fits op f g TooWide k h n = tt

  shifted_fits : (op : BinOp) (x y : Operand) → IsReadyOperand l.types x → IsReadyOperand l.types y → ((f g : Facts) (ty : TypeId) → tree.binary op l ty f g ≡ tree.shifted l ty f g) → Fits l (x.facts ∷ y.facts ∷ []) (shifted op x.shape y.shape)
  shifted_fits op x y r s n =
      subst (Fits l (x.facts ∷ y.facts ∷ [])) (λ i. shifted op (sym r.shape i) (sym s.shape i))
      (shift_fits op x.facts y.facts (amount (shape_at l x.facts) (shape_at l y.facts)) r.known (amount_fits (shape_at l x.facts) y.facts s.known) n)

  -- ---- assignments

  only_number : (a b : Bool) → (a && false || b) ≡ true → b ≡ true
  only_number true c h = h
  only_number false c h = h

  -- a value that has the type of a place is no array and not void
  takes_own : (v : Operand) (ty : TypeId) (s : Shape) → IsReadyOperand l.types v → s ≡ shape_of l.types ty → (takes_value v.shape && same_type v.facts.ty ty) ≡ true → takes_value s ≡ true
  takes_own v ty s r e h =
      let n = eqb-true v.facts.ty.0 ty.0 (second_so (takes_value v.shape) (same_type v.facts.ty ty) h) in
      let t : v.facts.ty ≡ ty = λ i. record { 0 = n i } in
      subst (λ z. takes_value z ≡ true) (r.shape ∙ ap (shape_of l.types) t ∙ sym e) (first_so (takes_value v.shape) (same_type v.facts.ty ty) h)

  takes_target : (v : Operand) (ty : TypeId) (s : Shape) → IsReadyOperand l.types v → s ≡ shape_of l.types ty → no_value v (record { ty = ty; shape = s }) ≡ false → takes_value s ≡ true
  takes_target v ty shape.Void r e h = takes_own v ty shape.Void r e (only_number (is_number v.shape) (takes_value v.shape && same_type v.facts.ty ty) (not-false (converts v.shape v.facts.ty shape.Void ty) h))
  takes_target v ty (shape.Array elem len nested) r e h = takes_own v ty (shape.Array elem len nested) r e (only_number (is_number v.shape) (takes_value v.shape && same_type v.facts.ty ty) (not-false (converts v.shape v.facts.ty (shape.Array elem len nested) ty) h))
  takes_target v ty shape.Bool r e h = refl
  takes_target v ty (shape.Integers t) r e h = refl
  takes_target v ty shape.Struct r e h = refl
  takes_target v ty (shape.Pointer z to readonly restricted) r e h = refl

  adds_leads : (q p : Shape) (lies : Option Space) → adds_const q p ≡ true → leads q lies ≡ true → leads p lies ≡ true
  adds_leads (shape.Pointer s to ro re) (shape.Pointer z to2 ro2 re2) lies a h =
      into_same z s lies (into_other z s (first_so (same_space s z) (same_type to to2) (first_so (same_space s z && same_type to to2) (ro2 || not ro) a))) h
  adds_leads q p lies a h = absurd (true≢false (sym a))

  -- a value of which no rule says that it doesn't convert
  target_converts : (v : Operand) (ty : TypeId) (s : Shape) → IsReadyOperand l.types v → no_value v (record { ty = ty; shape = s }) ≡ false → no_pointer v (record { ty = ty; shape = s }) ≡ false → converts_to l v.facts ty s ≡ true
  target_converts v ty (shape.Pointer z to ro re) r h k =
      let p = not-false (is_pointer (seen v)) h in
      let a = not-false (adds_const (seen v) (shape.Pointer z to ro re)) (ap (λ c. c && not (adds_const (seen v) (shape.Pointer z to ro re))) (sym p) ∙ k) in
      adds_leads (seen v) (shape.Pointer z to ro re) (points_into (shape_at l v.facts) v.facts.lies) a (seen_leads l v r p)
  target_converts v ty s r h k = here (λ z. converts z v.facts.ty s ty ≡ true) v r (not-false (converts v.shape v.facts.ty s ty) h)

  assigned_fits : (p v : Operand) → IsReadyOperand l.types p → IsReadyOperand l.types v → Fits l (p.facts ∷ v.facts ∷ []) (assigned p v)
  assigned_fits p v r s =
      let t310 : ℕ × Bool = (310, is_fixed p) in
      let t311 : ℕ × Bool = (311, no_value v (type_at p)) in
      let t333 : ℕ × Bool = (333, no_pointer v (type_at p)) in
      fits_unless l (p.facts ∷ v.facts ∷ []) (t310 ∷ t311 ∷ t333 ∷ []) (value (want.Own ∷ want.Type p.facts.ty ∷ []) (head.Assign None) (want.Type p.facts.ty))
      (λ e.
      let writes = not_fixed p (test_kept t310 (t311 ∷ t333 ∷ []) e) in
      let e1 = tests_kept t310 (t311 ∷ t333 ∷ []) e in
      let has_value = test_kept t311 (t333 ∷ []) e1 in
      let has_pointer = test_kept t333 [] (tests_kept t311 (t333 ∷ []) e1) in
      let c = here (λ z. converts_to l v.facts p.facts.ty z ≡ true) p r (target_converts v p.facts.ty p.shape s has_value has_pointer) in
      let takes = here (λ z. takes_value z ≡ true) p r (takes_target v p.facts.ty p.shape s r.shape has_value) in
      fits_two l (value (want.Own ∷ want.Type p.facts.ty ∷ []) (head.Assign None) (want.Type p.facts.ty)) want.Own (want.Type p.facts.ty) p.facts v.facts refl tt
      (λ ty w ne. subst (λ z. converts_to l v.facts z (shape_of l.types z) ≡ true) (sym (number_wanted l.types p.facts.ty ty w)) c)
      (λ x y ty j k w. subst (λ z. tree.assigned None l ty (z ∷ y ∷ []) ≡ Some (tree.value ty)) (after_own l p.facts x j)
      (kept_when (is_writable p.facts.lies && same_type ty p.facts.ty && tree.sets None l p.facts y) (tree.value ty)
      (and_from (is_writable p.facts.lies && same_type ty p.facts.ty) (tree.sets None l p.facts y)
      (and_from (is_writable p.facts.lies) (same_type ty p.facts.ty) writes (same_types ty p.facts.ty (number_wanted l.types p.facts.ty ty w)))
      (and_from (takes_value (shape_at l p.facts)) (same_type p.facts.ty y.ty) takes (same_types p.facts.ty y.ty (sym (number_wanted l.types p.facts.ty y.ty (after_wanted l (want.Type p.facts.ty) v.facts y tt k)))))))))

  changing_fits : (op : BinOp) (p v : Operand) (c : Changing) → IsReadyOperand l.types p → Backs l op p.shape v.facts c → Fits l (p.facts ∷ v.facts ∷ []) (changing op p c)
  changing_fits op p v c r h =
      let t303 : ℕ × Bool = (303, c.to_arrays) in
      let t308 : ℕ × Bool = (308, c.no_type) in
      let t309 : ℕ × Bool = (309, c.outranked) in
      let t310 : ℕ × Bool = (310, is_fixed p) in
      let t311 : ℕ × Bool = (311, c.no_way_back) in
      fits_unless l (p.facts ∷ v.facts ∷ []) (t303 ∷ t308 ∷ t309 ∷ t310 ∷ t311 ∷ []) (value (want.Own ∷ c.wanted ∷ []) (head.Assign (Some op)) (want.Type p.facts.ty))
      (λ e.
      let e1 = tests_kept t303 (t308 ∷ t309 ∷ t310 ∷ t311 ∷ []) e in
      let e2 = tests_kept t308 (t309 ∷ t310 ∷ t311 ∷ []) e1 in
      let e3 = tests_kept t309 (t310 ∷ t311 ∷ []) e2 in
      let e4 = tests_kept t310 (t311 ∷ []) e3 in
      let k = h (test_kept t308 (t309 ∷ t310 ∷ t311 ∷ []) e1) (test_kept t309 (t310 ∷ t311 ∷ []) e2) (test_kept t311 [] e4) in
      let writes = not_fixed p (test_kept t310 (t311 ∷ []) e3) in
      fits_two l (value (want.Own ∷ c.wanted ∷ []) (head.Assign (Some op)) (want.Type p.facts.ty)) want.Own c.wanted p.facts v.facts refl tt k.0
      (λ x y ty i j w. subst (λ z. tree.assigned (Some op) l ty (z ∷ y ∷ []) ≡ Some (tree.value ty)) (after_own l p.facts x i)
      (kept_when (is_writable p.facts.lies && same_type ty p.facts.ty && tree.sets (Some op) l p.facts y) (tree.value ty)
      (and_from (is_writable p.facts.lies && same_type ty p.facts.ty) (tree.sets (Some op) l p.facts y)
      (and_from (is_writable p.facts.lies) (same_type ty p.facts.ty) writes (same_types ty p.facts.ty (number_wanted l.types p.facts.ty ty w)))
      (here (λ z. tree.changes op z (shape_at l y) ≡ true) p r (k.1 y j))))))

  meets_fits : (op : BinOp) (s : Shape) (f : Facts) (m : Meeting) → IsKnown l.types f.ty → Joins s (shape_at l f) m → Returns s m → ((z : Shape) (t : Gentype) → takes_right z (shape.Integers t) ≡ true → tree.changes op z (shape.Integers t) ≡ true) → Backs l op s f (meets_back s m)
  meets_fits op s f (Meet t) k j ret n =
      λ x y z. (integers_convertible l f t b k j.1, λ g i. wanted_integers t g (λ w. tree.changes op s w ≡ true) (after_wanted l (integers t) f g tt i) (n s t (ret z)))
  meets_fits op s f Unlike k j ret n = λ x y z. absurd (true≢false x)
  meets_fits op s f Outranked k j ret n = λ x y z. absurd (true≢false y)

  calculates_fits : (op : BinOp) (p v : Operand) → IsReadyOperand l.types v → ((z : Shape) (t : Gentype) → takes_right z (shape.Integers t) ≡ true → tree.changes op z (shape.Integers t) ≡ true) → Backs l op p.shape v.facts (calculates_back p v)
  calculates_fits op p v s n =
      meets_fits op p.shape v.facts (meet p.shape v.shape) s.known (subst (λ z. Joins p.shape z (meet p.shape v.shape)) s.shape (meet_joins p.shape v.shape)) (meet_returns p.shape v.shape) n

  amounts_back : (op : BinOp) (s : Shape) (f : Facts) (q : Amount) → Amounts l s f q → ((z w : Shape) → is_shifted z w ≡ true → tree.changes op z w ≡ true) → Backs l op s f (record { no_type = is_none q; to_arrays = false; outranked = outranks q; no_way_back = false; wanted = amount_wanted q })
  amounts_back op s f (Wanted w) h n = λ x y z. (h.1, λ g i. n s (shape_at l g) (shifted_amount s (shape_at l g) (becomes_arithmetic (promoted (type_of s)) s h.0) (h.2 g i)))
  amounts_back op s f NoAmount h n = λ x y z. absurd (true≢false x)
  amounts_back op s f TooWide h n = λ x y z. absurd (true≢false y)

  shifts_fits : (op : BinOp) (p v : Operand) → IsReadyOperand l.types v → ((z w : Shape) → is_shifted z w ≡ true → tree.changes op z w ≡ true) → Backs l op p.shape v.facts (shifts_back p.shape v.shape)
  shifts_fits op p v s n = amounts_back op p.shape v.facts (amount p.shape v.shape) (subst (λ z. Amounts l p.shape v.facts (amount p.shape z)) (sym s.shape) (amount_fits p.shape v.facts s.known)) n

  -- a pointer moves by a number
  moves_fits : (op : BinOp) (p v : Operand) → IsReadyOperand l.types v → ((z w : Shape) → moves z w ≡ true → tree.changes op z w ≡ true) → is_pointer p.shape ≡ true → is_number v.shape ≡ true → Backs l op p.shape v.facts (fits want.Own)
  moves_fits op p v s n h k = λ x y z. (tt, λ g i. subst (λ w. tree.changes op p.shape (shape_at l w) ≡ true) (after_own l v.facts g i) (n p.shape (shape_at l v.facts) (moves_pointer p.shape (shape_at l v.facts) h (here (λ w. is_number w ≡ true) v s k))))

  right_adds : (z w : Shape) → takes_right z w ≡ true → (takes_right z w || moves z w) ≡ true
  right_adds z w h = or_left (takes_right z w) (moves z w) h

  move_adds : (z w : Shape) → moves z w ≡ true → (takes_right z w || moves z w) ≡ true
  move_adds z w h = or_right (takes_right z w) (moves z w) h

  adds_fits : (p v : Operand) → IsReadyOperand l.types v → Backs l bin.Add p.shape v.facts (adds_back p v)
  adds_fits p v s =
      by_test (Backs l bin.Add p.shape v.facts) (is_pointer p.shape) (if is_number v.shape then fits want.Own else unfit)
      (if is_number p.shape && is_pointer (seen v) then record (fits want.Own) { to_arrays = to_array v; no_way_back = true } else meets_back p.shape (meet p.shape v.shape))
      (λ e. by_test (Backs l bin.Add p.shape v.facts) (is_number v.shape) (fits want.Own) unfit (λ k. moves_fits bin.Add p v s move_adds e k) (λ k x y z. absurd (true≢false x)))
      (λ e. by_test (Backs l bin.Add p.shape v.facts) (is_number p.shape && is_pointer (seen v)) (record (fits want.Own) { to_arrays = to_array v; no_way_back = true }) (meets_back p.shape (meet p.shape v.shape))
      (λ k x y z. absurd (true≢false z)) (λ k. calculates_fits bin.Add p v s (λ z t. right_adds z (shape.Integers t))))

  subtracts_fits : (p v : Operand) → IsReadyOperand l.types v → Backs l bin.Sub p.shape v.facts (subtracts_back p v)
  subtracts_fits p v s =
      by_test (Backs l bin.Sub p.shape v.facts) (is_pointer p.shape) (if is_number v.shape then fits want.Own else if is_pointer (seen v) then distance p v else unfit) (meets_back p.shape (meet p.shape v.shape))
      (λ e. by_test (Backs l bin.Sub p.shape v.facts) (is_number v.shape) (fits want.Own) (if is_pointer (seen v) then distance p v else unfit) (λ k. moves_fits bin.Sub p v s move_adds e k)
      (λ k. by_test (Backs l bin.Sub p.shape v.facts) (is_pointer (seen v)) (distance p v) unfit (λ i x y z. absurd (true≢false z)) (λ i x y z. absurd (true≢false x))))
      (λ e. calculates_fits bin.Sub p v s (λ z t. right_adds z (shape.Integers t)))

  changes_fits : (op : BinOp) (p v : Operand) → IsReadyOperand l.types v → Backs l op p.shape v.facts (changes op p v)
  changes_fits bin.Add p v s = adds_fits p v s
  changes_fits bin.Sub p v s = subtracts_fits p v s
  changes_fits bin.Shl p v s = shifts_fits bin.Shl p v s (λ z w h. h)
  changes_fits bin.Shr p v s = shifts_fits bin.Shr p v s (λ z w h. h)
  changes_fits bin.Mul p v s = calculates_fits bin.Mul p v s (λ z t h. h)
  changes_fits bin.Div p v s = calculates_fits bin.Div p v s (λ z t h. h)
  changes_fits bin.Rem p v s = calculates_fits bin.Rem p v s (λ z t h. h)
  changes_fits bin.And p v s = calculates_fits bin.And p v s (λ z t h. h)
  changes_fits bin.Xor p v s = calculates_fits bin.Xor p v s (λ z t h. h)
  changes_fits bin.Or p v s = calculates_fits bin.Or p v s (λ z t h. h)
  changes_fits bin.Less p v s = λ x y z. absurd (true≢false x)
  changes_fits bin.Greater p v s = λ x y z. absurd (true≢false x)
  changes_fits bin.LessEqual p v s = λ x y z. absurd (true≢false x)
  changes_fits bin.GreaterEqual p v s = λ x y z. absurd (true≢false x)
  changes_fits bin.Equal p v s = λ x y z. absurd (true≢false x)
  changes_fits bin.NotEqual p v s = λ x y z. absurd (true≢false x)
  changes_fits bin.LogicalAnd p v s = λ x y z. absurd (true≢false x)
  changes_fits bin.LogicalOr p v s = λ x y z. absurd (true≢false x)

  assignment_judged : (op : Option BinOp) (p v : Operand) → IsReadyOperand l.types p → IsReadyOperand l.types v → Fits l (p.facts ∷ v.facts ∷ []) (assignment op p v)
  assignment_judged None p v r s = assigned_fits p v r s
  assignment_judged (Some op) p v r s = changing_fits op p v (changes op p v) r (changes_fits op p v s)

  pub assignment_fits : (op : Option BinOp) (p v : Operand) (m : Made) → IsReadyOperand l.types p → IsReadyOperand l.types v → assignment op p v ≡ Makes m → RuleFits l m (p.facts ∷ v.facts ∷ [])
  assignment_fits op p v m r s e = fits_made l (p.facts ∷ v.facts ∷ []) (assignment op p v) m e (assignment_judged op p v r s)

-- ---- operators between pointers, which are to no arrays in a unit

module _ (l : Lists) (b : IsTable l.types) (allowed : are_allowed l.types l.types ≡ true) where
  plain_relation : (s : Shape) (ty : TypeId) → is_plain_pointer l s ≡ true → is_type int (shape_of l.types ty) ≡ true → gives_relation l ty s ≡ true
  plain_relation (shape.Pointer z to ro re) ty h k = and_from (is_plain_pointer l (shape.Pointer z to ro re)) (is_type int (shape_of l.types ty)) h k
  plain_relation s ty h k = absurd (true≢false (sym h))

  apart_fits : (op : BinOp) (x y : Operand) → IsReadyOperand l.types x → IsReadyOperand l.types y → is_pointer (seen x) ≡ true → is_pointer (seen y) ≡ true → ((f g : Facts) (ty : TypeId) → is_plain_pointer l (shape_at l f) ≡ true → same_type f.ty g.ty ≡ true → is_type int (shape_of l.types ty) ≡ true → tree.binary op l ty f g ≡ Some (tree.value ty)) → Fits l (x.facts ∷ y.facts ∷ []) (apart op x y)
  apart_fits op x y r s p q n =
      let c = common (seen x) (seen y) in
      let arrays : ℕ × Bool = (303, to_array x || to_array y) in
      let unlike : ℕ × Bool = (308, not (same_target (seen x) (seen y))) in
      fits_unless l (x.facts ∷ y.facts ∷ []) (arrays ∷ unlike ∷ []) (value (both (want.Of c)) (head.Binary op) (integers int))
      (λ e.
      let same = not-false (same_target (seen x) (seen y)) (test_kept unlike [] (tests_kept arrays (unlike ∷ []) e)) in
      let first = or_parts (to_array x) (to_array y) (test_kept arrays (unlike ∷ []) e) in
      let plain = common_plain l (seen x) (seen y) same (seen_plain l x b allowed r p first.0) in
      fits_two l (value (both (want.Of c)) (head.Binary op) (integers int)) (want.Of c) (want.Of c) x.facts y.facts refl
      (pointer_convertible l x.facts c (common_leads_first (seen x) (seen y) (points_into (shape_at l x.facts) x.facts.lies) same (seen_leads l x r p)))
      (pointer_convertible l y.facts c (common_leads_second (seen x) (seen y) (points_into (shape_at l y.facts) y.facts.lies) same (seen_leads l y s q)))
      (λ f g ty v w i.
      let vf = after_wanted l (want.Of c) x.facts f tt v in
      let wg = after_wanted l (want.Of c) y.facts g tt w in
      n f g ty (subst (λ z. is_plain_pointer l z ≡ true) (sym (shape_wanted l.types c f.ty vf)) plain) (one_type_wanted l c f.ty g.ty b (plain_no_struct l c plain) vf wg) (is_int l b ty i)))

  related_fits : (op : BinOp) (x y : Operand) → IsReadyOperand l.types x → IsReadyOperand l.types y → ((f g : Facts) (ty : TypeId) → (same_type f.ty g.ty && gives_relation l ty (shape_at l f)) ≡ true → tree.binary op l ty f g ≡ Some (tree.value ty)) → Fits l (x.facts ∷ y.facts ∷ []) (related op x y)
  related_fits op x y r s n =
      by_test (Fits l (x.facts ∷ y.facts ∷ [])) (is_pointer (seen x) && is_pointer (seen y)) (apart op x y) (compared op (meet x.shape y.shape))
      (λ e. apart_fits op x y r s (first_so (is_pointer (seen x)) (is_pointer (seen y)) e) (second_so (is_pointer (seen x)) (is_pointer (seen y)) e)
      (λ f g ty p t i. n f g ty (and_from (same_type f.ty g.ty) (gives_relation l ty (shape_at l f)) t (plain_relation (shape_at l f) ty p i))))
      (λ e. compared_fits l b op (meet x.shape y.shape) x.facts y.facts r.known s.known (operands_join l b x y r s) n)

  -- the type of a pointer that moved by a number
  moved_by : (p : Shape) (x y : Facts) (ty : TypeId) → is_plain_pointer l p ≡ true → IsWanted l.types (want.Of p) x.ty → is_number (shape_at l y) ≡ true → IsWanted l.types (want.Of p) ty → tree.moved l ty x y ≡ true
  moved_by p x y ty plain v n w =
      and_from (is_plain_pointer l (shape_at l x) && is_number (shape_at l y)) (same_type ty x.ty)
      (and_from (is_plain_pointer l (shape_at l x)) (is_number (shape_at l y)) (subst (λ z. is_plain_pointer l z ≡ true) (sym (shape_wanted l.types p x.ty v)) plain) n)
      (one_type_wanted l p ty x.ty b (plain_no_struct l p plain) w v)

  number_after : (o : Operand) (f : Facts) → IsReadyOperand l.types o → is_number o.shape ≡ true → IsAfter l want.Own o.facts f → is_number (shape_at l f) ≡ true
  number_after o f r h a = subst (λ z. is_number (shape_at l z) ≡ true) (after_own l o.facts f a) (here l b (λ z. is_number z ≡ true) o r h)

  first_moved : (op : BinOp) (x y : Operand) → IsReadyOperand l.types x → IsReadyOperand l.types y → is_pointer (seen x) ≡ true → is_number y.shape ≡ true → ((f g : Facts) (ty : TypeId) → tree.moved l ty f g ≡ true → tree.binary op l ty f g ≡ Some (tree.value ty)) → Fits l (x.facts ∷ y.facts ∷ []) (moved op x (want.Of (seen x) ∷ want.Own ∷ []))
  first_moved op x y r s p h n =
      let arrays : ℕ × Bool = (303, to_array x) in
      fits_unless l (x.facts ∷ y.facts ∷ []) (arrays ∷ []) (value (want.Of (seen x) ∷ want.Own ∷ []) (head.Binary op) (want.Of (seen x)))
      (λ e. let plain = seen_plain l x b allowed r p (test_kept arrays [] e) in
      fits_two l (value (want.Of (seen x) ∷ want.Own ∷ []) (head.Binary op) (want.Of (seen x))) (want.Of (seen x)) want.Own x.facts y.facts refl (pointer_convertible l x.facts (seen x) (seen_leads l x r p)) tt
      (λ f g ty v w i. n f g ty (moved_by (seen x) f g ty plain (after_wanted l (want.Of (seen x)) x.facts f tt v) (number_after y g s h w) i)))

  second_moved : (op : BinOp) (x y : Operand) → IsReadyOperand l.types x → IsReadyOperand l.types y → is_number x.shape ≡ true → is_pointer (seen y) ≡ true → ((f g : Facts) (ty : TypeId) → tree.moved l ty g f ≡ true → tree.binary op l ty f g ≡ Some (tree.value ty)) → Fits l (x.facts ∷ y.facts ∷ []) (moved op y (want.Own ∷ want.Of (seen y) ∷ []))
  second_moved op x y r s h p n =
      let arrays : ℕ × Bool = (303, to_array y) in
      fits_unless l (x.facts ∷ y.facts ∷ []) (arrays ∷ []) (value (want.Own ∷ want.Of (seen y) ∷ []) (head.Binary op) (want.Of (seen y)))
      (λ e. let plain = seen_plain l y b allowed s p (test_kept arrays [] e) in
      fits_two l (value (want.Own ∷ want.Of (seen y) ∷ []) (head.Binary op) (want.Of (seen y))) want.Own (want.Of (seen y)) x.facts y.facts refl tt (pointer_convertible l y.facts (seen y) (seen_leads l y s p))
      (λ f g ty v w i. n f g ty (moved_by (seen y) g f ty plain (after_wanted l (want.Of (seen y)) y.facts g tt w) (number_after x f r h v) i)))

  -- each of three tests is enough
  first_of_three : (x y z : Bool) (ty : TypeId) → x ≡ true → when (x || y || z) (tree.value ty) ≡ Some (tree.value ty)
  first_of_three x y z ty h = kept_when (x || y || z) (tree.value ty) (or_left (x || y) z (or_left x y h))

  second_of_three : (x y z : Bool) (ty : TypeId) → y ≡ true → when (x || y || z) (tree.value ty) ≡ Some (tree.value ty)
  second_of_three x y z ty h = kept_when (x || y || z) (tree.value ty) (or_left (x || y) z (or_right x y h))

  third_of_three : (x y z : Bool) (ty : TypeId) → z ≡ true → when (x || y || z) (tree.value ty) ≡ Some (tree.value ty)
  third_of_three x y z ty h = kept_when (x || y || z) (tree.value ty) (or_right (x || y) z h)

  added_fits : (x y : Operand) → IsReadyOperand l.types x → IsReadyOperand l.types y → Fits l (x.facts ∷ y.facts ∷ []) (added x y)
  added_fits x y r s =
      by_test (Fits l (x.facts ∷ y.facts ∷ [])) (is_pointer (seen x) && is_number y.shape) (moved bin.Add x (want.Of (seen x) ∷ want.Own ∷ []))
      (if is_number x.shape && is_pointer (seen y) then moved bin.Add y (want.Own ∷ want.Of (seen y) ∷ []) else calculated bin.Add (meet x.shape y.shape))
      (λ e. first_moved bin.Add x y r s (first_so (is_pointer (seen x)) (is_number y.shape) e) (second_so (is_pointer (seen x)) (is_number y.shape) e)
      (λ f g ty. second_of_three (of_type l ty f g) (tree.moved l ty f g) (tree.moved l ty g f) ty))
      (λ e. by_test (Fits l (x.facts ∷ y.facts ∷ [])) (is_number x.shape && is_pointer (seen y)) (moved bin.Add y (want.Own ∷ want.Of (seen y) ∷ [])) (calculated bin.Add (meet x.shape y.shape))
      (λ e2. second_moved bin.Add x y r s (first_so (is_number x.shape) (is_pointer (seen y)) e2) (second_so (is_number x.shape) (is_pointer (seen y)) e2)
      (λ f g ty. third_of_three (of_type l ty f g) (tree.moved l ty f g) (tree.moved l ty g f) ty))
      (λ e2. calculated_fits l b bin.Add (meet x.shape y.shape) x.facts y.facts r.known s.known (operands_join l b x y r s)
      (λ f g ty. first_of_three (of_type l ty f g) (tree.moved l ty f g) (tree.moved l ty g f) ty)))

  subtracted_fits : (x y : Operand) → IsReadyOperand l.types x → IsReadyOperand l.types y → Fits l (x.facts ∷ y.facts ∷ []) (subtracted x y)
  subtracted_fits x y r s =
      by_test (Fits l (x.facts ∷ y.facts ∷ [])) (is_pointer (seen x) && is_number y.shape) (moved bin.Sub x (want.Of (seen x) ∷ want.Own ∷ []))
      (if is_pointer (seen x) && is_pointer (seen y) then apart bin.Sub x y else calculated bin.Sub (meet x.shape y.shape))
      (λ e. first_moved bin.Sub x y r s (first_so (is_pointer (seen x)) (is_number y.shape) e) (second_so (is_pointer (seen x)) (is_number y.shape) e)
      (λ f g ty. second_of_three (of_type l ty f g) (tree.moved l ty f g) (tree.apart l ty f g) ty))
      (λ e. by_test (Fits l (x.facts ∷ y.facts ∷ [])) (is_pointer (seen x) && is_pointer (seen y)) (apart bin.Sub x y) (calculated bin.Sub (meet x.shape y.shape))
      (λ e2. apart_fits bin.Sub x y r s (first_so (is_pointer (seen x)) (is_pointer (seen y)) e2) (second_so (is_pointer (seen x)) (is_pointer (seen y)) e2)
      (λ f g ty p t i. third_of_three (of_type l ty f g) (tree.moved l ty f g) (tree.apart l ty f g) ty
      (and_from (is_plain_pointer l (shape_at l f) && same_type f.ty g.ty) (is_type int (shape_of l.types ty)) (and_from (is_plain_pointer l (shape_at l f)) (same_type f.ty g.ty) p t) i)))
      (λ e2. calculated_fits l b bin.Sub (meet x.shape y.shape) x.facts y.facts r.known s.known (operands_join l b x y r s)
      (λ f g ty. first_of_three (of_type l ty f g) (tree.moved l ty f g) (tree.apart l ty f g) ty)))

  -- values of one type that can be compared
  relating : (f g : Facts) (ty : TypeId) → (same_type f.ty g.ty && gives_relation l ty (shape_at l f)) ≡ true → tree.related l ty f g ≡ Some (tree.value ty)
  relating f g ty h = kept_when (same_type f.ty g.ty && gives_relation l ty (shape_at l f)) (tree.value ty) h

  plainly_calculated : (op : BinOp) (x y : Operand) → IsReadyOperand l.types x → IsReadyOperand l.types y → ((f g : Facts) (ty : TypeId) → tree.binary op l ty f g ≡ tree.calculated l ty f g) → Fits l (x.facts ∷ y.facts ∷ []) (calculated op (meet x.shape y.shape))
  plainly_calculated op x y r s n = calculated_fits l b op (meet x.shape y.shape) x.facts y.facts r.known s.known (operands_join l b x y r s) (λ f g ty h. n f g ty ∙ kept_when (of_type l ty f g) (tree.value ty) h)

  binary_judged : (op : BinOp) (x y : Operand) → IsReadyOperand l.types x → IsReadyOperand l.types y → Fits l (x.facts ∷ y.facts ∷ []) (binary op x y)
  binary_judged bin.Add x y r s = added_fits x y r s
  binary_judged bin.Sub x y r s = subtracted_fits x y r s
  binary_judged bin.Shl x y r s = shifted_fits l b bin.Shl x y r s (λ f g ty. refl)
  binary_judged bin.Shr x y r s = shifted_fits l b bin.Shr x y r s (λ f g ty. refl)
  binary_judged bin.Less x y r s = related_fits bin.Less x y r s relating
  binary_judged bin.Greater x y r s = related_fits bin.Greater x y r s relating
  binary_judged bin.LessEqual x y r s = related_fits bin.LessEqual x y r s relating
  binary_judged bin.GreaterEqual x y r s = related_fits bin.GreaterEqual x y r s relating
  binary_judged bin.Equal x y r s = related_fits bin.Equal x y r s relating
  binary_judged bin.NotEqual x y r s = related_fits bin.NotEqual x y r s relating
  binary_judged bin.LogicalAnd x y r s = joined_fits l b bin.LogicalAnd x y r s (λ f g ty. refl)
  binary_judged bin.LogicalOr x y r s = joined_fits l b bin.LogicalOr x y r s (λ f g ty. refl)
  binary_judged bin.Mul x y r s = plainly_calculated bin.Mul x y r s (λ f g ty. refl)
  binary_judged bin.Div x y r s = plainly_calculated bin.Div x y r s (λ f g ty. refl)
  binary_judged bin.Rem x y r s = plainly_calculated bin.Rem x y r s (λ f g ty. refl)
  binary_judged bin.And x y r s = plainly_calculated bin.And x y r s (λ f g ty. refl)
  binary_judged bin.Xor x y r s = plainly_calculated bin.Xor x y r s (λ f g ty. refl)
  binary_judged bin.Or x y r s = plainly_calculated bin.Or x y r s (λ f g ty. refl)

  pub binary_fits : (op : BinOp) (x y : Operand) (m : Made) → IsReadyOperand l.types x → IsReadyOperand l.types y → binary op x y ≡ Makes m → RuleFits l m (x.facts ∷ y.facts ∷ [])
  binary_fits op x y m r s e = fits_made l (x.facts ∷ y.facts ∷ []) (binary op x y) m e (binary_judged op x y r s)
