-- The rules of operators and assignments say of operands by other numbers of types what they say of these, by those numbers.
use Rattle.std.proofs.Common.{◌≡◌, ℕ, List, [], ◌∷◌, map, refl, sym, ap, ◌∙◌, Bool, true, false, not, ◌&&◌, ◌||◌, if◌then◌else◌, nat_eq, nat_lt, Option, Some, None}
use Rattle.std.specs.Option.{option_map}
use Rattle.cl_types.specs.declared.operator.UnOp.{UnOp}
use Rattle.cl_types.specs.declared.operator.UnOp.TheVariants as un
use Rattle.cl_types.specs.declared.operator.BinOp.{BinOp}
use Rattle.cl_types.specs.declared.operator.BinOp.TheVariants as bin
use Rattle.cl_builtins.specs.declared.kind.Gentype.{Gentype}
use Rattle.cl_builtins.specs.Kinds.{int, usual}
use Rattle.cl_tree.specs.declared.shape.Shape.{Shape}
use Rattle.cl_tree.specs.declared.shape.Shape.TheVariants as shape
use Rattle.cl_tree.specs.Facts.{has_address, is_some}
use Rattle.cl_tree.specs.Shapes.{promoted, rank}
use Rattle.cl_rules.specs.declared.rule.Operand.{Operand}
use Rattle.cl_rules.specs.declared.rule.Want.{Want}
use Rattle.cl_rules.specs.declared.rule.Want.TheVariants as want
use Rattle.cl_rules.specs.declared.rule.Head.TheVariants as head
use Rattle.cl_rules.specs.declared.rule.Made.{Made}
use Rattle.cl_rules.specs.declared.rule.Meeting.{Meeting}
use Rattle.cl_rules.specs.declared.rule.Meeting.TheVariants.{Meet, Unlike, Outranked}
use Rattle.cl_rules.specs.declared.rule.Amount.{Amount}
use Rattle.cl_rules.specs.declared.rule.Amount.TheVariants.{Wanted, NoAmount, TooWide}
use Rattle.cl_rules.specs.declared.rule.Changing.{Changing}
use Rattle.cl_rules.specs.Operands.{first_broken, unless_at, unless, value, integers, seen, same_target, common, type_of, type_at}
use Rattle.cl_rules.specs.Operators.{signed, negated, dereferenced, addressed, is_fixed, stepped, unary, beside, alike_vectors, meet, is_unlike, is_outranked, met, meets, both, calculated, pointers_meet, apart, compared, related, joined, amount, is_none, outranks, amount_wanted, shifted, moved, added, subtracted, binary, assigned, changing, is_back, meets_back, shifts_back, adds_back, subtracts_back, calculates_back, changes, assignment}
use Rattle.cl_renaming.specs.Renaming.{shape_as, want_as, operand_as, made_as, judged_as, amount_as, changing_as, TellsApart}
use Rattle.cl_renaming.proofs.Shapes.{is_void_as, is_bool_as, is_array_as, is_number_as, is_vector_as, is_pointer_as, is_steppable_as, rank_as, type_of_as, is_arithmetic_as, seen_as, to_array_as, common_as, is_seen_as, same_seen_as, same_target_as, no_value_as, no_pointer_as}

-- ---- tests, and what nodes make

pub by_if : {A B : Type 0} (f : A → B) (b : Bool) (x y : A) → (if b then f x else f y) ≡ f (if b then x else y)
by_if f true x y = refl
by_if f false x y = refl

-- the same of two tests that are one, where each arm is
pub if_as : {A B : Type 0} (f : A → B) (b c : Bool) (x y : B) (v w : A) → b ≡ c → x ≡ f v → y ≡ f w → (if b then x else y) ≡ f (if c then v else w)
if_as f b c x y v w e g h = (λ i. if e i then g i else h i) ∙ by_if f c v w

module _ (r : ℕ → ℕ) where
  unless_at_as : (o : Option ℕ) (m : Made) → unless_at o (made_as r m) ≡ judged_as r (unless_at o m)
  unless_at_as None m = refl
  unless_at_as (Some code) m = refl

  pub unless_as : (ts us : List (ℕ × Bool)) (m n : Made) → ts ≡ us → m ≡ made_as r n → unless ts m ≡ judged_as r (unless us n)
  unless_as ts us m n e f = (λ i. unless (e i) (f i)) ∙ unless_at_as (first_broken us) n

  -- ---- operators on one operand

  pub signed_as : (op : UnOp) (o : Operand) → signed op (operand_as r o) ≡ judged_as r (signed op o)
  signed_as op o =
      unless_as _ _ _ _
      (λ i. (308, not (is_arithmetic_as r o.shape i)) ∷ [])
      (λ i. value (integers (promoted (type_of_as r o.shape i)) ∷ []) (head.Unary op) (integers (promoted (type_of_as r o.shape i))))

  pub negated_as : (o : Operand) → negated (operand_as r o) ≡ judged_as r (negated o)
  negated_as o = unless_as _ _ _ _ (λ i. (308, not (is_number_as r o.shape i)) ∷ []) refl

  pub dereferenced_as : (o : Operand) (s : Shape) → dereferenced (operand_as r o) (shape_as r s) ≡ judged_as r (dereferenced o s)
  dereferenced_as o (shape.Pointer s to readonly restricted) = refl
  dereferenced_as o (shape.Array elem len nested) = refl
  dereferenced_as o _ = refl

  has_address_as : (o : Operand) → has_address (operand_as r o).facts (shape_as r o.shape) ≡ has_address o.facts o.shape
  has_address_as o = λ i. is_some o.facts.lies && not o.facts.component && not (is_void_as r o.shape i) && not (is_bool_as r o.shape i) && not (is_array_as r o.shape i) && not (is_pointer_as r o.shape i)

  pub addressed_as : (o : Operand) → addressed (operand_as r o) ≡ judged_as r (addressed o)
  addressed_as o = unless_as _ _ _ _ (λ i. (312, not (has_address_as o i)) ∷ []) refl

  pub stepped_as : (op : UnOp) (o : Operand) → stepped op (operand_as r o) ≡ judged_as r (stepped op o)
  stepped_as op o = unless_as _ _ _ _ (λ i. (308, not (is_steppable_as r o.shape i)) ∷ (310, is_fixed o) ∷ []) refl

  pub unary_as : (op : UnOp) (o : Operand) → unary op (operand_as r o) ≡ option_map (judged_as r) (unary op o)
  unary_as un.Plus o = ap Some (signed_as un.Plus o)
  unary_as un.Minus o = ap Some (signed_as un.Minus o)
  unary_as un.Not o = ap Some (signed_as un.Not o)
  unary_as un.LogicalNot o = ap Some (negated_as o)
  unary_as un.Deref o = ap Some (dereferenced_as o o.shape)
  unary_as un.Address o = ap Some (addressed_as o)
  unary_as un.PreInc o = ap Some (stepped_as un.PreInc o)
  unary_as un.PreDec o = ap Some (stepped_as un.PreDec o)
  unary_as un.PostInc o = ap Some (stepped_as un.PostInc o)
  unary_as un.PostDec o = ap Some (stepped_as un.PostDec o)
  unary_as un.Sizeof o = refl

  -- ---- the type of two operands together

  beside_as : (t : Gentype) (s : Shape) → beside t (shape_as r s) ≡ beside t s
  beside_as t s = λ i. if nat_lt t.bits (rank_as r s i) then Outranked else Meet t

  pub meet_as : (a b : Shape) → meet (shape_as r a) (shape_as r b) ≡ meet a b
  meet_as a b = λ i.
      if is_number_as r a i && is_number_as r b i then Meet (usual (type_of_as r a i) (type_of_as r b i))
      else if is_vector_as r a i && is_vector_as r b i then alike_vectors (type_of_as r a i) (type_of_as r b i)
      else if is_vector_as r a i && is_number_as r b i then (if nat_lt (type_of_as r a i).bits (rank_as r b i) then Outranked else Meet (type_of_as r a i))
      else if is_number_as r a i && is_vector_as r b i then (if nat_lt (type_of_as r b i).bits (rank_as r a i) then Outranked else Meet (type_of_as r b i))
      else Unlike

  pub calculated_as : (op : BinOp) (m : Meeting) → calculated op m ≡ judged_as r (calculated op m)
  calculated_as op m = unless_as (meets m) _ _ _ refl refl

  calculated_of : (op : BinOp) (a b : Operand) → calculated op (meet (shape_as r a.shape) (shape_as r b.shape)) ≡ judged_as r (calculated op (meet a.shape b.shape))
  calculated_of op a b = ap (calculated op) (meet_as a.shape b.shape) ∙ calculated_as op (meet a.shape b.shape)

  pub compared_as : (op : BinOp) (m : Meeting) → compared op m ≡ judged_as r (compared op m)
  compared_as op m = unless_as (meets m) _ _ _ refl refl

  pub joined_as : (op : BinOp) (a b : Operand) → joined op (operand_as r a) (operand_as r b) ≡ judged_as r (joined op a b)
  joined_as op a b = unless_as _ _ _ _ (λ i. (308, not (is_number_as r a.shape i && is_number_as r b.shape i)) ∷ []) refl

  -- ---- shifts

  pub amount_as_one : (a b : Shape) → amount (shape_as r a) (shape_as r b) ≡ amount a b
  amount_as_one a b = λ i.
      if is_number_as r a i && is_number_as r b i then Wanted (integers (promoted (type_of_as r b i)))
      else if is_vector_as r a i && is_vector_as r b i then (if nat_eq (type_of_as r a i).count (type_of_as r b i).count then Wanted want.Own else NoAmount)
      else if is_vector_as r a i && is_number_as r b i then (if nat_lt (type_of_as r a i).bits (rank_as r b i) then TooWide else Wanted (integers (type_of_as r a i)))
      else NoAmount

  -- no amount is wanted by a number of a type
  beside_plain : (b : Bool) (t : Gentype) → amount_as r (if b then TooWide else Wanted (integers t)) ≡ (if b then TooWide else Wanted (integers t))
  beside_plain true t = refl
  beside_plain false t = refl

  counts_plain : (b : Bool) → amount_as r (if b then Wanted want.Own else NoAmount) ≡ (if b then Wanted want.Own else NoAmount)
  counts_plain true = refl
  counts_plain false = refl

  pub amount_plain : (a b : Shape) → amount a b ≡ amount_as r (amount a b)
  amount_plain a b =
      if_as (amount_as r) _ _ _ _ _ _ refl refl
      (if_as (amount_as r) _ _ _ _ _ _ refl (sym (counts_plain (nat_eq (type_of a).count (type_of b).count)))
      (if_as (amount_as r) _ _ _ _ _ _ refl (sym (beside_plain (nat_lt (type_of a).bits (rank b)) (type_of a))) refl))

  wanted_plain : (m : Amount) → amount_wanted (amount_as r m) ≡ want_as r (amount_wanted m)
  wanted_plain (Wanted w) = refl
  wanted_plain NoAmount = refl
  wanted_plain TooWide = refl

  pub amount_wanted_as : (a b : Shape) → amount_wanted (amount (shape_as r a) (shape_as r b)) ≡ want_as r (amount_wanted (amount a b))
  amount_wanted_as a b = ap amount_wanted (amount_as_one a b ∙ amount_plain a b) ∙ wanted_plain (amount a b)

  pub shifted_as : (op : BinOp) (a b : Shape) → shifted op (shape_as r a) (shape_as r b) ≡ judged_as r (shifted op a b)
  shifted_as op a b =
      unless_as _ _ _ _
      (λ i. (308, is_none (amount_as_one a b i)) ∷ (309, outranks (amount_as_one a b i)) ∷ [])
      (λ i. value (integers (promoted (type_of_as r a i)) ∷ amount_wanted_as a b i ∷ []) (head.Binary op) (integers (promoted (type_of_as r a i))))

  pub moved_as : (op : BinOp) (o : Operand) (vs ws : List Want) → vs ≡ map (want_as r) ws → moved op (operand_as r o) vs ≡ judged_as r (moved op o ws)
  moved_as op o vs ws e =
      unless_as _ _ _ _
      (λ i. (303, to_array_as r o i) ∷ [])
      (λ i. value (e i) (head.Binary op) (want.Of (seen_as r o i)))

-- ---- pointers that meet, and assignments

module _ (r : ℕ → ℕ) (d : TellsApart r) where
  pub pointers_meet_as : (a b : Operand) → pointers_meet (operand_as r a) (operand_as r b) ≡ pointers_meet a b
  pointers_meet_as a b = λ i. (303, to_array_as r a i || to_array_as r b i) ∷ (308, not (same_seen_as r d a b i)) ∷ []

  pub common_seen_as : (a b : Operand) → common (seen (operand_as r a)) (seen (operand_as r b)) ≡ shape_as r (common (seen a) (seen b))
  common_seen_as a b = (λ i. common (seen_as r a i) (seen_as r b i)) ∙ common_as r (seen a) (seen b)

  pub apart_as : (op : BinOp) (a b : Operand) → apart op (operand_as r a) (operand_as r b) ≡ judged_as r (apart op a b)
  apart_as op a b = unless_as r _ _ _ _ (pointers_meet_as a b) (λ i. value (both (want.Of (common_seen_as a b i))) (head.Binary op) (integers int))

  pub related_as : (op : BinOp) (a b : Operand) → related op (operand_as r a) (operand_as r b) ≡ judged_as r (related op a b)
  related_as op a b =
      if_as (judged_as r) _ _ _ _ _ _ (λ i. is_seen_as r a i && is_seen_as r b i)
      (apart_as op a b)
      (ap (compared op) (meet_as r a.shape b.shape) ∙ compared_as r op (meet a.shape b.shape))

  pub added_as : (a b : Operand) → added (operand_as r a) (operand_as r b) ≡ judged_as r (added a b)
  added_as a b =
      if_as (judged_as r) _ _ _ _ _ _ (λ i. is_seen_as r a i && is_number_as r b.shape i)
      (moved_as r bin.Add a _ (want.Of (seen a) ∷ want.Own ∷ []) (λ i. want.Of (seen_as r a i) ∷ want.Own ∷ []))
      (if_as (judged_as r) _ _ _ _ _ _ (λ i. is_number_as r a.shape i && is_seen_as r b i)
      (moved_as r bin.Add b _ (want.Own ∷ want.Of (seen b) ∷ []) (λ i. want.Own ∷ want.Of (seen_as r b i) ∷ []))
      (calculated_of r bin.Add a b))

  pub subtracted_as : (a b : Operand) → subtracted (operand_as r a) (operand_as r b) ≡ judged_as r (subtracted a b)
  subtracted_as a b =
      if_as (judged_as r) _ _ _ _ _ _ (λ i. is_seen_as r a i && is_number_as r b.shape i)
      (moved_as r bin.Sub a _ (want.Of (seen a) ∷ want.Own ∷ []) (λ i. want.Of (seen_as r a i) ∷ want.Own ∷ []))
      (if_as (judged_as r) _ _ _ _ _ _ (λ i. is_seen_as r a i && is_seen_as r b i)
      (apart_as bin.Sub a b)
      (calculated_of r bin.Sub a b))

  pub binary_as : (op : BinOp) (a b : Operand) → binary op (operand_as r a) (operand_as r b) ≡ judged_as r (binary op a b)
  binary_as bin.Add a b = added_as a b
  binary_as bin.Sub a b = subtracted_as a b
  binary_as bin.Shl a b = shifted_as r bin.Shl a.shape b.shape
  binary_as bin.Shr a b = shifted_as r bin.Shr a.shape b.shape
  binary_as bin.Less a b = related_as bin.Less a b
  binary_as bin.Greater a b = related_as bin.Greater a b
  binary_as bin.LessEqual a b = related_as bin.LessEqual a b
  binary_as bin.GreaterEqual a b = related_as bin.GreaterEqual a b
  binary_as bin.Equal a b = related_as bin.Equal a b
  binary_as bin.NotEqual a b = related_as bin.NotEqual a b
  binary_as bin.LogicalAnd a b = joined_as r bin.LogicalAnd a b
  binary_as bin.LogicalOr a b = joined_as r bin.LogicalOr a b
  binary_as bin.Mul a b = calculated_of r bin.Mul a b
  binary_as bin.Div a b = calculated_of r bin.Div a b
  binary_as bin.Rem a b = calculated_of r bin.Rem a b
  binary_as bin.And a b = calculated_of r bin.And a b
  binary_as bin.Xor a b = calculated_of r bin.Xor a b
  binary_as bin.Or a b = calculated_of r bin.Or a b

  -- ---- assignments

  pub assigned_as : (p v : Operand) → assigned (operand_as r p) (operand_as r v) ≡ judged_as r (assigned p v)
  assigned_as p v = unless_as r _ _ _ _ (λ i. (310, is_fixed p) ∷ (311, no_value_as r d v (type_at p) i) ∷ (333, no_pointer_as r d v (type_at p) i) ∷ []) refl

  pub changing_of : (op : BinOp) (p : Operand) (c : Changing) → changing op (operand_as r p) (changing_as r c) ≡ judged_as r (changing op p c)
  changing_of op p c = unless_as r ((303, c.to_arrays) ∷ (308, c.no_type) ∷ (309, c.outranked) ∷ (310, is_fixed p) ∷ (311, c.no_way_back) ∷ []) _ _ _ refl refl

  meets_back_as : (p : Shape) (m : Meeting) → meets_back (shape_as r p) m ≡ changing_as r (meets_back p m)
  meets_back_as p m = ap (λ b. record { no_type = is_unlike m; to_arrays = false; outranked = is_outranked m; no_way_back = b && is_back m; wanted = integers (met m) }) (is_number_as r p)

  calculates_back_as : (p v : Operand) → calculates_back (operand_as r p) (operand_as r v) ≡ changing_as r (calculates_back p v)
  calculates_back_as p v = ap (meets_back (shape_as r p.shape)) (meet_as r p.shape v.shape) ∙ meets_back_as p.shape (meet p.shape v.shape)

  shifts_back_as : (p v : Shape) → shifts_back (shape_as r p) (shape_as r v) ≡ changing_as r (shifts_back p v)
  shifts_back_as p v = λ i. record { no_type = is_none (amount_as_one r p v i); to_arrays = false; outranked = outranks (amount_as_one r p v i); no_way_back = false; wanted = amount_wanted_as r p v i }

  adds_back_as : (p v : Operand) → adds_back (operand_as r p) (operand_as r v) ≡ changing_as r (adds_back p v)
  adds_back_as p v =
      if_as (changing_as r) _ _ _ _ _ _ (is_pointer_as r p.shape)
      (if_as (changing_as r) _ _ _ _ _ _ (is_number_as r v.shape) refl refl)
      (if_as (changing_as r) _ _ _ _ _ _ (λ i. is_number_as r p.shape i && is_seen_as r v i)
      (λ i. record { no_type = false; to_arrays = to_array_as r v i; outranked = false; no_way_back = true; wanted = want.Own })
      (calculates_back_as p v))

  subtracts_back_as : (p v : Operand) → subtracts_back (operand_as r p) (operand_as r v) ≡ changing_as r (subtracts_back p v)
  subtracts_back_as p v =
      let e : same_target (shape_as r p.shape) (seen (operand_as r v)) ≡ same_target p.shape (seen v) = ap (same_target (shape_as r p.shape)) (seen_as r v) ∙ same_target_as r d p.shape (seen v) in
      if_as (changing_as r) _ _ _ _ _ _ (is_pointer_as r p.shape)
      (if_as (changing_as r) _ _ _ _ _ _ (is_number_as r v.shape) refl
      (if_as (changing_as r) _ _ _ _ _ _ (is_seen_as r v)
      (λ i. record { no_type = not (e i); to_arrays = to_array_as r v i; outranked = false; no_way_back = true; wanted = want.Own })
      refl))
      (calculates_back_as p v)

  pub changes_as : (op : BinOp) (p v : Operand) → changes op (operand_as r p) (operand_as r v) ≡ changing_as r (changes op p v)
  changes_as bin.Add p v = adds_back_as p v
  changes_as bin.Sub p v = subtracts_back_as p v
  changes_as bin.Shl p v = shifts_back_as p.shape v.shape
  changes_as bin.Shr p v = shifts_back_as p.shape v.shape
  changes_as bin.Mul p v = calculates_back_as p v
  changes_as bin.Div p v = calculates_back_as p v
  changes_as bin.Rem p v = calculates_back_as p v
  changes_as bin.And p v = calculates_back_as p v
  changes_as bin.Xor p v = calculates_back_as p v
  changes_as bin.Or p v = calculates_back_as p v
  changes_as _ p v = refl

  pub assignment_as : (op : Option BinOp) (p v : Operand) → assignment op (operand_as r p) (operand_as r v) ≡ judged_as r (assignment op p v)
  assignment_as None p v = assigned_as p v
  assignment_as (Some op) p v = ap (changing op (operand_as r p)) (changes_as op p v) ∙ changing_of op p (changes op p v)
