-- The tokens that may stand first in a part of expressions and types.
use Rattle.std.proofs.Common.{◌≡◌, ℕ, Bool, true, false, List, [], ◌∷◌, ◌++◌, refl, sym, ap, ◌∙◌, subst, ◌⊎◌, inl, inr}
use Rattle.std.specs.Prelude.{Some}
use Rattle.cl_grammar.specs.declared.lexeme.Lexeme.{Lexeme}
use Rattle.cl_grammar.specs.declared.terminal.Terminal.{Terminal}
use Rattle.cl_grammar.specs.declared.terminal.Terminal.TheVariants as t
use Rattle.cl_grammar.specs.Terminals.{whole_type, width_of}
use Rattle.cl_grammar.specs.Expressions as x
use Rattle.cl_grammar.specs.Expressions.{IsA, AreQualifiers, ArePointerQualifiers, IsStar, MayBeStar, IsWidth, IsInteger, IsSpec, IsBase, AreMembers, AreDeclors, IsDeclor, AreLengths, IsTypeTerm, AreAssigns, IsAssign, IsCond, IsBin, IsCast, IsUnary, IsPostfix, AreSuffixes, IsPrimary}
use Rattle.cl_grammar.specs.Parts as p
use Rattle.cl_grammar.specs.Parts.{IsMoreAssigns, IsRow, IsChoice, IsBehindCast, IsBehindUnary, IsPlainCast, IsClosedCast, IsBehindVector, IsVectorCast, IsCasted, IsCastedAssign, IsUnaryAssign, IsTypeInBrackets, IsSized, IsArguments, MayBeCall, IsAnySpec, IsAnyType, MayBeWidth, MayBeInt, IsBody, MayBeBody, IsBehindStruct, IsMembersWithin, MayBeMembersWithin, IsBehindName, IsNamesWithin, IsLength}
use Rattle.cl_grammar.specs.Symbols as s
use Rattle.cl_grammar.specs.Symbols.{Sym, ExprSym, Class, belongs, is_some, is_whole, Is, IsE, Are}
use Rattle.cl_grammar.proofs.TerminalKinds.{kind, has, class_has, class_kind, implies, implied, all_below, each}
use Rattle.cl_grammar.proofs.Firsts.{Begins, begins, begins_more, begins_one}

-- the kinds that begin an expression, and a type
abbrev pub expr_kinds : List ℕ
expr_kinds = 1 ∷ 3 ∷ 36 ∷ 37 ∷ 49 ∷ 50 ∷ 51 ∷ 52 ∷ 53 ∷ 54 ∷ 55 ∷ 56 ∷ []

abbrev pub closed_kinds : List ℕ
closed_kinds = 1 ∷ 3 ∷ 36 ∷ 49 ∷ 50 ∷ 51 ∷ 52 ∷ 53 ∷ 54 ∷ 55 ∷ 56 ∷ []

abbrev pub type_kinds : List ℕ
type_kinds = 2 ∷ 9 ∷ 10 ∷ 12 ∷ 13 ∷ 14 ∷ 15 ∷ 16 ∷ 17 ∷ 18 ∷ 19 ∷ 20 ∷ 21 ∷ 22 ∷ 23 ∷ 24 ∷ 62 ∷ []

abbrev pub base_kinds : Bool → List ℕ
base_kinds true = 22 ∷ 62 ∷ []
base_kinds false = 2 ∷ 13 ∷ 14 ∷ 15 ∷ 16 ∷ 17 ∷ 18 ∷ 19 ∷ 20 ∷ 21 ∷ 23 ∷ 24 ∷ []

abbrev pub spec_kinds : Bool → List ℕ
spec_kinds true = 9 ∷ 10 ∷ 12 ∷ 22 ∷ 62 ∷ []
spec_kinds false = 9 ∷ 10 ∷ 12 ∷ 2 ∷ 13 ∷ 14 ∷ 15 ∷ 16 ∷ 17 ∷ 18 ∷ 19 ∷ 20 ∷ 21 ∷ 23 ∷ 24 ∷ []

abbrev pub term_kinds : Bool → List ℕ
term_kinds true = 9 ∷ 10 ∷ 12 ∷ 22 ∷ 62 ∷ []
term_kinds false = type_kinds

-- the kinds that begin a part
abbrev pub firsts : ExprSym → List ℕ
firsts s.Assigns = expr_kinds
firsts s.MoreAssigns = 43 ∷ []
firsts s.Assign = expr_kinds
firsts s.UnaryAssign = expr_kinds
firsts s.CastedAssign = 37 ∷ []
firsts s.BehindUnary = 46 ∷ 53 ∷ 54 ∷ 55 ∷ 56 ∷ 57 ∷ 58 ∷ 59 ∷ []
firsts s.BehindCast = 46 ∷ 53 ∷ 54 ∷ 55 ∷ 56 ∷ 57 ∷ []
firsts s.Cond = expr_kinds
firsts s.Bin = expr_kinds
firsts s.Row = 53 ∷ 54 ∷ 55 ∷ 56 ∷ 57 ∷ []
firsts s.Choice = 46 ∷ []
firsts s.Cast = expr_kinds
firsts s.Casted = 37 ∷ []
firsts s.PlainCast = 37 ∷ []
firsts s.VectorCast = 37 ∷ []
firsts s.BehindVector = expr_kinds
firsts s.ClosedCast = closed_kinds
firsts s.Unary = expr_kinds
firsts s.Sized = expr_kinds
firsts s.TypeInBrackets = 37 ∷ []
firsts s.Postfix = 1 ∷ 3 ∷ 37 ∷ []
firsts s.Suffixes = 39 ∷ 47 ∷ 48 ∷ 49 ∷ 50 ∷ []
firsts s.Primary = 1 ∷ 3 ∷ 37 ∷ []
firsts s.Call = 37 ∷ []
firsts s.Arguments = 38 ∷ expr_kinds
firsts s.AnyType = type_kinds
firsts (s.TypeTerm vector) = term_kinds vector
firsts s.AnySpec = type_kinds
firsts (s.Spec vector) = spec_kinds vector
firsts s.Qualifiers = 9 ∷ 10 ∷ 12 ∷ []
firsts (s.Base vector) = base_kinds vector
firsts s.Integer = 15 ∷ 16 ∷ 17 ∷ 18 ∷ 19 ∷ 20 ∷ []
firsts s.MayWidth = 17 ∷ 18 ∷ 19 ∷ 20 ∷ []
firsts s.Width = 17 ∷ 18 ∷ 19 ∷ 20 ∷ []
firsts s.MayInt = 19 ∷ []
firsts s.BehindStruct = 1 ∷ 41 ∷ []
firsts s.MayBody = 41 ∷ []
firsts s.Body = 41 ∷ []
firsts (s.Members room) = type_kinds
firsts (s.MayMembers room) = type_kinds
firsts (s.Names room) = 1 ∷ 54 ∷ []
firsts (s.BehindName room) = 43 ∷ 44 ∷ []
firsts s.Declor = 1 ∷ 54 ∷ []
firsts s.MayStar = 54 ∷ []
firsts s.Star = 54 ∷ []
firsts s.PointerQualifiers = 9 ∷ 10 ∷ 11 ∷ []
firsts s.Lengths = 39 ∷ []
firsts s.Length = 40 ∷ expr_kinds

-- the parts that may be no tokens
abbrev pub empties_e : ExprSym → Bool
empties_e s.MoreAssigns = true
empties_e s.BehindUnary = true
empties_e s.BehindCast = true
empties_e s.Row = true
empties_e s.Choice = true
empties_e s.Suffixes = true
empties_e s.Call = true
empties_e s.Qualifiers = true
empties_e s.MayWidth = true
empties_e s.MayInt = true
empties_e s.MayBody = true
empties_e (s.MayMembers room) = true
empties_e s.MayStar = true
empties_e s.PointerQualifiers = true
empties_e s.Lengths = true
empties_e _ = false

abbrev pub Starting : ExprSym → List Lexeme → Type 0
Starting x u = Begins (firsts x) u

abbrev pub within : List ℕ → List ℕ → ℕ → Bool
within a b k = implies (has a k) (has b k)

pub wider : (a b : List ℕ) (u : List Lexeme) → all_below 63 (within a b) ≡ true → Begins a u → Begins b u
wider a b u h = begins a b u (λ l f. implied (has a (kind l.terminal)) (has b (kind l.terminal)) (each (within a b) h l.terminal) f)

abbrev pub class_within : Class → List ℕ → ℕ → Bool
class_within c b k = implies (class_has c k) (has b k)

pub of_class : (c : Class) (b : List ℕ) (l : Lexeme) (w : List Lexeme) → all_below 63 (class_within c b) ≡ true → belongs c l.terminal ≡ true → Begins b (l ∷ w)
of_class c b l w h f = begins_one b l w (implied (class_has c (kind l.terminal)) (has b (kind l.terminal)) (each (class_within c b) h l.terminal) (sym (class_kind c l.terminal) ∙ f))

pub of_mark : (t : Terminal) (b : List ℕ) (l : Lexeme) (w : List Lexeme) → has b (kind t) ≡ true → IsA t l → Begins b (l ∷ w)
of_mark t b l w h f = begins_one b l w (subst (λ z. has b (kind z) ≡ true) (sym f) h)

pub self_kind : (t : Terminal) → has (kind t ∷ []) (kind t) ≡ true
self_kind (t.TypeName true) = refl
self_kind (t.TypeName false) = refl
self_kind _ = refl

pub width_kind : (t : Terminal) → is_some (width_of t) ≡ true → has (firsts s.Width) (kind t) ≡ true
width_kind (t.TypeName true) h = h
width_kind (t.TypeName false) h = h
width_kind _ h = h

pub closed_terminal : (t : Terminal) → x.is_open t ≡ false → has expr_kinds (kind t) ≡ true → has closed_kinds (kind t) ≡ true
closed_terminal t.OpenParen e h = absurd (let f : true ≡ false = e in cc)
closed_terminal (t.TypeName true) e h = h
closed_terminal (t.TypeName false) e h = h
closed_terminal _ e h = h

pub closed_kind : (l : Lexeme) → x.is_open l.terminal ≡ false → has expr_kinds (kind l.terminal) ≡ true → has closed_kinds (kind l.terminal) ≡ true
closed_kind l e h = closed_terminal l.terminal e h

pub primary_begins : (u : List Lexeme) → IsPrimary u → Starting s.Primary u
primary_begins _ (x.name n a) = of_mark t.Name _ n _ refl a
primary_begins _ (x.call_of_none n o c a b d) = of_mark t.Name _ n _ refl a
primary_begins _ (x.call n o c u a b d e) = of_mark t.Name _ n _ refl a
primary_begins _ (x.number n value ty a) = of_mark (t.Number value ty) _ n _ refl a
primary_begins _ (x.brackets o c u a b d) = of_mark t.OpenParen _ o _ refl a

pub postfix_begins : (u : List Lexeme) → IsPostfix u → Starting s.Postfix u
postfix_begins _ (x.suffixed u v a b) = begins_more _ u v (primary_begins u a)

pub unary_begins : (u : List Lexeme) → IsUnary u → Starting s.Unary u
unary_begins _ (x.only_postfix u a) = wider (firsts s.Postfix) expr_kinds u refl (postfix_begins u a)
unary_begins _ (x.incremented o op u a b) = of_class s.BeforeIncrement _ o _ refl (ap is_some a)
unary_begins _ (x.prefixed o op u a b) = of_class s.Prefix _ o _ refl (ap is_some a)
unary_begins _ (x.size_of s u a b) = of_mark t.Sizeof _ s _ refl a
unary_begins _ (x.size_of_type s o c vector u a b d e) = of_mark t.Sizeof _ s _ refl a

pub cast_begins : (u : List Lexeme) → IsCast u → Starting s.Cast u
cast_begins _ (x.only_unary u a) = unary_begins u a
cast_begins _ (x.cast o c u v a b d e) = of_mark t.OpenParen _ o _ refl a
cast_begins _ (x.vector_cast o c u v a b d e f) = of_mark t.OpenParen _ o _ refl a
cast_begins _ (x.vector_literal o c p d u v a b e f g h) = of_mark t.OpenParen _ o _ refl a

pub bin_begins : (u : List Lexeme) → IsBin u → Starting s.Bin u
bin_begins _ (x.only_cast u a) = cast_begins u a
bin_begins _ (x.operated o op u v a b c) = begins_more _ u _ (cast_begins u a)

pub cond_begins : (u : List Lexeme) → IsCond u → Starting s.Cond u
cond_begins _ (x.only_bin u a) = bin_begins u a
cond_begins _ (x.conditional q c u v w a b d e f) = begins_more _ u _ (bin_begins u a)

pub assign_begins : (u : List Lexeme) → IsAssign u → Starting s.Assign u
assign_begins _ (x.only_cond u a) = cond_begins u a
assign_begins _ (x.assigned o op u v a b c) = begins_more _ u _ (unary_begins u a)

pub assigns_begins : (u : List Lexeme) → AreAssigns u → Starting s.Assigns u
assigns_begins _ (x.last_assign u a) = assign_begins u a
assigns_begins _ (x.more_assigns c u v a b d) = begins_more _ u _ (assign_begins u a)

pub casted_begins : (u : List Lexeme) → IsCasted u → Starting s.Casted u
casted_begins _ (p.casted_plain _ (p.plain_cast o c u v a b d e)) = of_mark t.OpenParen _ o _ refl a
casted_begins _ (p.casted_vector _ (p.vector_cast o c u v a b d e)) = of_mark t.OpenParen _ o _ refl a

pub closed_only : (u : List Lexeme) → x.begins_open u ≡ false → Starting s.Cast u → Starting s.ClosedCast u
closed_only u e b = record { first = b.first; rest = b.rest; is = b.is; fits = closed_kind b.first (ap x.begins_open (sym b.is) ∙ e) b.fits }

pub closed_begins : (u : List Lexeme) → IsClosedCast u → Starting s.ClosedCast u
closed_begins u c = closed_only u c.closed (cast_begins u c.is)

abbrev pub MayStart : ExprSym → List Lexeme → Type 0
MayStart x u = Starting x u ⊎ ((u ≡ []) × (empties_e x ≡ true))

pub row_first : (u : List Lexeme) → IsRow u → MayStart s.Row u
row_first _ p.row_ends = inr (refl, refl)
row_first _ (p.row_goes_on o op u a b) = inl (of_class s.Binary _ o _ refl (ap is_some a))

pub choice_first : (u : List Lexeme) → IsChoice u → MayStart s.Choice u
choice_first _ p.no_choice = inr (refl, refl)
choice_first _ (p.choice q c u v a b d e) = inl (of_mark t.Question _ q _ refl a)

pub joined_first : (a b c : List ℕ) (u v : List Lexeme) → all_below 63 (within a c) ≡ true → all_below 63 (within b c) ≡ true → Begins a u ⊎ ((u ≡ []) × (true ≡ true)) → Begins b v ⊎ ((v ≡ []) × (true ≡ true)) → Begins c (u ++ v) ⊎ ((u ++ v ≡ []) × (true ≡ true))
joined_first a b c u v h k (inl f) g = inl (begins_more c u v (wider a c u h f))
joined_first a b c u v h k (inr f) (inl g) = inl (subst (λ z. Begins c (z ++ v)) (sym f.0) (wider b c v k g))
joined_first a b c u v h k (inr f) (inr g) = inr (ap (λ z. z ++ v) f.0 ∙ g.0, refl)

pub behind_cast_first : (u : List Lexeme) → IsBehindCast u → MayStart s.BehindCast u
behind_cast_first _ (p.behind_cast u v a b) = joined_first (firsts s.Row) (firsts s.Choice) (firsts s.BehindCast) u v refl refl (row_first u a) (choice_first v b)

pub behind_unary_first : (u : List Lexeme) → IsBehindUnary u → MayStart s.BehindUnary u
behind_unary_first _ (p.assigned_to o op u a b) = inl (of_class s.Assignment _ o _ refl (ap is_some a))
behind_unary_first _ (p.not_assigned u a) = elim (behind_cast_first u a) as (λ _. MayStart s.BehindUnary u) [ inl f ↦ inl (wider (firsts s.BehindCast) (firsts s.BehindUnary) u refl f) | inr g ↦ inr (g.0, refl) ]

pub qualifiers_first : (u : List Lexeme) → AreQualifiers u → MayStart s.Qualifiers u
qualifiers_first [] a = inr (refl, refl)
qualifiers_first (l ∷ u) a = inl (of_class s.Qualifier _ l u refl (ap is_some a.0.1))

pub pointer_qualifiers_first : (u : List Lexeme) → ArePointerQualifiers u → MayStart s.PointerQualifiers u
pointer_qualifiers_first [] a = inr (refl, refl)
pointer_qualifiers_first (l ∷ u) a = inl (of_class s.PointerQualifier _ l u refl (ap is_some a.0.1))

pub star_begins : (u : List Lexeme) → IsStar u → Starting s.Star u
star_begins _ (x.star s u a b) = of_mark t.Star _ s _ refl a

pub may_star_first : (u : List Lexeme) → MayBeStar u → MayStart s.MayStar u
may_star_first _ x.none = inr (refl, refl)
may_star_first _ (x.some u a) = inl (star_begins u a)

pub is_width : (w : Lexeme) (bits : ℕ) → width_of w.terminal ≡ Some bits → has (firsts s.Width) (kind w.terminal) ≡ true
is_width w bits h = width_kind w.terminal (ap is_some h)

pub width_begins : (u : List Lexeme) → IsWidth u → Starting s.Width u
width_begins _ (x.word w bits a) = begins_one _ w _ (is_width w bits a)
width_begins _ (x.with_int w i a b) = of_class s.LongWidth _ w _ refl a

pub integer_begins : (u : List Lexeme) → IsInteger u → Starting s.Integer u
integer_begins _ (x.plain u a) = wider (firsts s.Width) (firsts s.Integer) u refl (width_begins u a)
integer_begins _ (x.with_sign g signed u a b) = of_class s.Sign _ g _ refl (ap is_some a)
integer_begins _ (x.sign g signed a) = of_class s.Sign _ g _ refl (ap is_some a)

pub whole_begins : (vector : Bool) (w : Lexeme) (u : List Lexeme) → whole_type w.terminal ≡ Some vector → Begins (base_kinds vector) (w ∷ u)
whole_begins true w u h = of_class (s.Whole true) _ w u refl (ap (is_whole true) h)
whole_begins false w u h = of_class (s.Whole false) _ w u refl (ap (is_whole false) h)

pub base_begins : (vector : Bool) (u : List Lexeme) → IsBase vector u → Starting (s.Base vector) u
base_begins vector _ (x.type_word _ w a) = whole_begins vector w _ a
base_begins false _ (x.integer u a) = wider (firsts s.Integer) (base_kinds false) u refl (integer_begins u a)
base_begins false _ (x.struct_name s n a b) = of_mark t.Struct _ s _ refl a
base_begins false _ (x.named_struct s n o c u count a b d e f g) = of_mark t.Struct _ s _ refl a
base_begins false _ (x.struct s o c u count a b d e f) = of_mark t.Struct _ s _ refl a

pub spec_begins_with : (vector : Bool) (u v : List Lexeme) → MayStart s.Qualifiers u → Starting (s.Base vector) v → Starting (s.Spec vector) (u ++ v)
spec_begins_with true u v (inl f) b = begins_more _ u v (wider (firsts s.Qualifiers) (spec_kinds true) u refl f)
spec_begins_with false u v (inl f) b = begins_more _ u v (wider (firsts s.Qualifiers) (spec_kinds false) u refl f)
spec_begins_with true u v (inr f) b = subst (λ z. Starting (s.Spec true) (z ++ v)) (sym f.0) (wider (base_kinds true) (spec_kinds true) v refl b)
spec_begins_with false u v (inr f) b = subst (λ z. Starting (s.Spec false) (z ++ v)) (sym f.0) (wider (base_kinds false) (spec_kinds false) v refl b)

pub spec_begins : (vector : Bool) (u : List Lexeme) → IsSpec vector u → Starting (s.Spec vector) u
spec_begins vector _ (x.spec _ u v w a b c) = spec_begins_with vector u (v ++ w) (qualifiers_first u a) (begins_more _ v w (base_begins vector v b))

pub any_spec_wider : (vector : Bool) (u : List Lexeme) → Starting (s.Spec vector) u → Begins type_kinds u
any_spec_wider true u b = wider (spec_kinds true) type_kinds u refl b
any_spec_wider false u b = wider (spec_kinds false) type_kinds u refl b

pub any_spec_begins : (vector : Bool) (u : List Lexeme) → IsSpec vector u → Begins type_kinds u
any_spec_begins vector u a = any_spec_wider vector u (spec_begins vector u a)

pub type_begins : (vector : Bool) (u : List Lexeme) → IsTypeTerm vector u → Starting (s.TypeTerm vector) u
type_begins true _ (x.plain_type _ u a) = spec_begins true u a
type_begins false _ (x.plain_type _ u a) = any_spec_begins false u a
type_begins false _ (x.pointer_type vector u v a b) = begins_more _ u v (any_spec_begins vector u a)

pub any_type_wider : (vector : Bool) (u : List Lexeme) → Starting (s.TypeTerm vector) u → Begins type_kinds u
any_type_wider true u b = wider (term_kinds true) type_kinds u refl b
any_type_wider false u b = b

pub members_begin : (count : ℕ) (u : List Lexeme) → AreMembers count u → Begins type_kinds u
members_begin _ _ (x.last_member count vector s u v a b c) = begins_more _ u _ (any_spec_begins vector u a)
members_begin _ _ (x.more_members count rest vector s u v w a b c d) = begins_more _ u _ (any_spec_begins vector u a)

pub body_begins : (u : List Lexeme) → IsBody u → Begins (41 ∷ []) u
body_begins _ (p.body o c u count a b d e) = of_mark t.OpenBrace _ o _ refl a

pub declor_with : (n : Lexeme) (u v : List Lexeme) → IsA t.Name n → MayStart s.MayStar u → Starting s.Declor (u ++ n ∷ v)
declor_with n u v b (inl f) = begins_more _ u _ (wider (firsts s.MayStar) (firsts s.Declor) u refl f)
declor_with n u v b (inr f) = subst (λ z. Starting s.Declor (z ++ n ∷ v)) (sym f.0) (of_mark t.Name _ n v refl b)

pub declor_begins : (u : List Lexeme) → IsDeclor u → Starting s.Declor u
declor_begins _ (x.declor n u v a b c) = declor_with n u v b (may_star_first u a)

pub part_first : (x : ExprSym) (u : List Lexeme) → IsE x u → MayStart x u
part_first s.Assigns u a = inl (assigns_begins u a)
part_first s.MoreAssigns _ p.no_more_assign = inr (refl, refl)
part_first s.MoreAssigns _ (p.next_assign c u a b) = inl (of_mark t.Comma _ c _ refl a)
part_first s.Assign u a = inl (assign_begins u a)
part_first s.UnaryAssign _ (p.unary_assign u v a b) = inl (begins_more _ u v (unary_begins u a))
part_first s.CastedAssign _ (p.casted_assign u v a b) = inl (begins_more _ u v (casted_begins u a))
part_first s.BehindUnary u a = behind_unary_first u a
part_first s.BehindCast u a = behind_cast_first u a
part_first s.Cond u a = inl (cond_begins u a)
part_first s.Bin u a = inl (bin_begins u a)
part_first s.Row u a = row_first u a
part_first s.Choice u a = choice_first u a
part_first s.Cast u a = inl (cast_begins u a)
part_first s.Casted u a = inl (casted_begins u a)
part_first s.PlainCast _ (p.plain_cast o c u v a b d e) = inl (of_mark t.OpenParen _ o _ refl a)
part_first s.VectorCast _ (p.vector_cast o c u v a b d e) = inl (of_mark t.OpenParen _ o _ refl a)
part_first s.BehindVector _ (p.operands o d u a b c) = inl (of_mark t.OpenParen _ o _ refl a)
part_first s.BehindVector _ (p.cast_operand u a) = inl (cast_begins u a.is)
part_first s.ClosedCast u a = inl (closed_begins u a)
part_first s.Unary u a = inl (unary_begins u a)
part_first s.Sized _ (p.sized_type _ (p.type_in_brackets o c vector u a b d)) = inl (of_mark t.OpenParen _ o _ refl a)
part_first s.Sized _ (p.sized_unary u a) = inl (unary_begins u a)
part_first s.TypeInBrackets _ (p.type_in_brackets o c vector u a b d) = inl (of_mark t.OpenParen _ o _ refl a)
part_first s.Postfix u a = inl (postfix_begins u a)
part_first s.Suffixes _ x.no_suffix = inr (refl, refl)
part_first s.Suffixes _ (x.indexed o c u v a b d e) = inl (of_mark t.OpenBracket _ o _ refl a)
part_first s.Suffixes _ (x.member d n arrow v a b c) = inl (of_class s.OfMember _ d _ refl (ap is_some a))
part_first s.Suffixes _ (x.increments o op v a b) = inl (of_class s.BehindIncrement _ o _ refl (ap is_some a))
part_first s.Primary u a = inl (primary_begins u a)
part_first s.Call _ p.no_call = inr (refl, refl)
part_first s.Call _ (p.called o u a b) = inl (of_mark t.OpenParen _ o _ refl a)
part_first s.Arguments _ (p.no_argument c a) = inl (of_mark t.CloseParen _ c _ refl a)
part_first s.Arguments _ (p.arguments c u a b) = inl (begins_more _ u _ (wider expr_kinds (firsts s.Arguments) u refl (assigns_begins u a)))
part_first s.AnyType _ (p.any_type vector u a) = inl (any_type_wider vector u (type_begins vector u a))
part_first (s.TypeTerm vector) u a = inl (type_begins vector u a)
part_first s.AnySpec _ (p.any_spec vector u a) = inl (any_spec_begins vector u a)
part_first (s.Spec vector) u a = inl (spec_begins vector u a)
part_first s.Qualifiers u a = qualifiers_first u a
part_first (s.Base vector) u a = inl (base_begins vector u a)
part_first s.Integer u a = inl (integer_begins u a)
part_first s.MayWidth _ p.no_width = inr (refl, refl)
part_first s.MayWidth _ (p.some_width u a) = inl (width_begins u a)
part_first s.Width u a = inl (width_begins u a)
part_first s.MayInt _ p.no_int = inr (refl, refl)
part_first s.MayInt _ (p.some_int i a) = inl (of_mark t.Int _ i _ refl a)
part_first s.BehindStruct _ (p.tagged n u a b) = inl (of_mark t.Name _ n _ refl a)
part_first s.BehindStruct _ (p.untagged u a) = inl (wider (41 ∷ []) (firsts s.BehindStruct) u refl (body_begins u a))
part_first s.MayBody _ p.no_body = inr (refl, refl)
part_first s.MayBody _ (p.some_body u a) = inl (body_begins u a)
part_first s.Body u a = inl (body_begins u a)
part_first (s.Members room) _ (p.members_within _ count u a b) = inl (members_begin count u a)
part_first (s.MayMembers room) _ (p.no_members _) = inr (refl, refl)
part_first (s.MayMembers room) _ (p.some_members _ _ (p.members_within _ count u a b)) = inl (members_begin count u a)
part_first (s.Names room) _ (p.names_within _ u v a b) = inl (begins_more _ u v (declor_begins u a))
part_first (s.BehindName room) _ (p.names_end _ s u a b) = inl (of_mark t.Semicolon _ s _ refl a)
part_first (s.BehindName room) _ (p.names_go_on _ c u v a b d) = inl (of_mark t.Comma _ c _ refl a)
part_first s.Declor u a = inl (declor_begins u a)
part_first s.MayStar u a = may_star_first u a
part_first s.Star u a = inl (star_begins u a)
part_first s.PointerQualifiers u a = pointer_qualifiers_first u a
part_first s.Lengths _ x.no_length = inr (refl, refl)
part_first s.Lengths _ (x.missing_length o c v a b d) = inl (of_mark t.OpenBracket _ o _ refl a)
part_first s.Lengths _ (x.length_given o c u v a b d e) = inl (of_mark t.OpenBracket _ o _ refl a)
part_first s.Length _ (p.no_length c u a b) = inl (of_mark t.CloseBracket _ c _ refl a)
part_first s.Length _ (p.some_length c u v a b d) = inl (begins_more _ u _ (wider expr_kinds (firsts s.Length) u refl (cond_begins u a)))
