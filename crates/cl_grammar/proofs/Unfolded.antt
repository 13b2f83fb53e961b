-- Each part of the grammar is one of its rows of symbols, and each of these is such a part.
use Rattle.std.proofs.Common.{◌≡◌, ℕ, zero, suc, ◌≤◌, List, [], ◌∷◌, ◌++◌, Bool, true, false, refl, sym, ap, ◌∙◌, subst, append_assoc, arith, ◌⊎◌, inl, inr}
use Rattle.std.specs.Prelude.{Some}
use Rattle.std.proofs.lemmas.List.{append-nil}
use Rattle.cl_grammar.specs.declared.lexeme.Lexeme.{Lexeme}
use Rattle.cl_grammar.specs.declared.terminal.Terminal.{Terminal}
use Rattle.cl_grammar.specs.declared.terminal.Terminal.TheVariants as t
use Rattle.cl_grammar.specs.Terminals.{qualifier_of, pointer_qualifier_of, whole_type, sign_of, width_of, takes_int, prefix_of, increment_before, increment_behind, arrow_of, binary_of, assignment_of}
use Rattle.cl_grammar.specs.Expressions as x
use Rattle.cl_grammar.specs.Expressions.{IsA, AreQualifiers, ArePointerQualifiers, IsStar, MayBeStar, IsWidth, IsInteger, IsSpec, IsBase, AreMembers, AreDeclors, IsDeclor, AreLengths, IsTypeTerm, AreAssigns, IsAssign, IsCond, IsBin, IsCast, IsUnary, IsPostfix, AreSuffixes, IsPrimary}
use Rattle.cl_grammar.specs.Parts as p
use Rattle.cl_grammar.specs.Parts.{IsMoreAssigns, IsRow, IsChoice, IsBehindCast, IsBehindUnary, IsPlainCast, IsClosedCast, IsBehindVector, IsVectorCast, IsCasted, IsCastedAssign, IsUnaryAssign, IsTypeInBrackets, IsSized, IsArguments, MayBeCall, IsAnySpec, IsAnyType, MayBeWidth, MayBeInt, IsBody, MayBeBody, IsBehindStruct, IsMembersWithin, MayBeMembersWithin, IsBehindName, IsNamesWithin, IsLength}
use Rattle.cl_grammar.specs.Symbols as s
use Rattle.cl_grammar.specs.Symbols.{Sym, ExprSym, Class, Mark, Of, E, belongs, is_some, is_whole, is_lone, is_number, Is, IsE, Are}
use Rattle.cl_grammar.proofs.Rules.{rules, Fills, nothing, AnyOf, more, mark, one_of, last, alone, un_last, marked, chosen, parted, only, some_of, whole_is, width_word, lone_width, long_width, number_is, members_are, members_of, some_member}

-- ---- a part as its rows

bin_behind : (u : List Lexeme) → IsBin u → Fills (E s.Cast ∷ E s.Row ∷ []) u
bin_behind _ (x.only_cast u a) = alone _ _ u a p.row_ends
bin_behind _ (x.operated o op u v a b c) = more _ _ u (o ∷ v) a (last _ _ (p.row_goes_on o op v b c))

cond_behind : (u v : List Lexeme) → IsBin u → IsChoice v → Fills (E s.Cast ∷ E s.BehindCast ∷ []) (u ++ v)
cond_behind u v a c = let b = (bin_behind u a).are in
    record { are = (b.0, b.1 ++ v, b.2, (b.1 ++ v, [], p.behind_cast b.1 v (un_last (E s.Row) b.1 b.3) c, refl, sym (append-nil (b.1 ++ v))), ap (λ z. z ++ v) b.4 ∙ append_assoc b.0 b.1 v) }

cond_rows : (u : List Lexeme) → IsCond u → Fills (E s.Cast ∷ E s.BehindCast ∷ []) u
cond_rows _ (x.only_bin u a) = subst (Fills (E s.Cast ∷ E s.BehindCast ∷ [])) (append-nil u) (cond_behind u [] a p.no_choice)
cond_rows _ (x.conditional q c u v w a b d e f) = cond_behind u (q ∷ (v ++ c ∷ w)) a (p.choice q c v w b d e f)

casted_rows : (u : List Lexeme) → IsCast u → IsUnary u ⊎ IsCasted u
casted_rows _ (x.only_unary u a) = inl a
casted_rows _ (x.cast o c u v a b d e) = inr (p.casted_plain _ (p.plain_cast o c u v a b d e))
casted_rows _ (x.vector_cast o c u v a b d e f) = inr (p.casted_vector _ (p.vector_cast o c u v a b d (p.cast_operand v (record { is = e; closed = f }))))
casted_rows _ (x.vector_literal o c q d u v a b e f g h) = inr (p.casted_vector _ (p.vector_cast o c u (q ∷ (v ++ d ∷ [])) a b e (p.operands q d v f g h)))

assign_by : (w u v : List Lexeme) → w ≡ u ++ v → IsUnary u ⊎ IsCasted u → IsBehindCast v → IsUnaryAssign w ⊎ IsCastedAssign w
assign_by w u v e (inl a) b = inl (subst IsUnaryAssign (sym e) (p.unary_assign u v a (p.not_assigned v b)))
assign_by w u v e (inr a) b = inr (subst IsCastedAssign (sym e) (p.casted_assign u v a b))

assign_rows : (u : List Lexeme) → IsAssign u → IsUnaryAssign u ⊎ IsCastedAssign u
assign_rows _ (x.only_cond u a) = let b = (cond_rows u a).are in assign_by u b.0 b.1 b.4 (casted_rows b.0 b.2) (un_last (E s.BehindCast) b.1 b.3)
assign_rows _ (x.assigned o op u v a b c) = inl (p.unary_assign u (o ∷ v) a (p.assigned_to o op v b c))

width_rows : (w : Lexeme) (bits : ℕ) → width_of w.terminal ≡ Some bits → AnyOf (rules s.Width) (w ∷ [])
width_rows w bits a = elim (width_word w.terminal bits a) as (λ _. AnyOf (rules s.Width) (w ∷ [])) [ inl h ↦ inl (one_of _ _ w [] h nothing) | inr h ↦ inr (inl (one_of _ _ w [] h (last _ [] p.no_int))) ]

members_body : (u : List Lexeme) (count : ℕ) → AreMembers count u → count ≤ 65500 → IsMembersWithin 65500 u
members_body u count a b = p.members_within 65500 count u a b

no_member : (u : List Lexeme) → IsMembersWithin 0 u → ⊥
no_member u (p.members_within _ count _ a b) = let k = some_member count u a in absurd (omega arith)

pub rows_of : (y : ExprSym) (u : List Lexeme) → IsE y u → AnyOf (rules y) u
rows_of s.Assigns _ (x.last_assign u a) = inl (alone _ _ u a p.no_more_assign)
rows_of s.Assigns _ (x.more_assigns c u v a b d) = inl (more _ _ u (c ∷ v) a (last _ _ (p.next_assign c v b d)))
rows_of s.MoreAssigns _ p.no_more_assign = inl nothing
rows_of s.MoreAssigns _ (p.next_assign c u a b) = inr (inl (mark _ _ c u a (last _ u b)))
rows_of s.Assign u a = elim (assign_rows u a) as (λ _. AnyOf (rules s.Assign) u) [ inl h ↦ inl (last _ u h) | inr h ↦ inr (inl (last _ u h)) ]
rows_of s.UnaryAssign _ (p.unary_assign u v a b) = inl (more _ _ u v a (last _ v b))
rows_of s.CastedAssign _ (p.casted_assign u v a b) = inl (more _ _ u v a (last _ v b))
rows_of s.BehindUnary _ (p.assigned_to o op u a b) = inl (one_of _ _ o u (ap is_some a) (last _ u b))
rows_of s.BehindUnary _ (p.not_assigned u a) = inr (inl (last _ u a))
rows_of s.BehindCast _ (p.behind_cast u v a b) = inl (more _ _ u v a (last _ v b))
rows_of s.Cond u a = inl (cond_rows u a)
rows_of s.Bin u a = inl (bin_behind u a)
rows_of s.Row _ p.row_ends = inl nothing
rows_of s.Row _ (p.row_goes_on o op u a b) = inr (inl (one_of _ _ o u (ap is_some a) (last _ u b)))
rows_of s.Choice _ p.no_choice = inl nothing
rows_of s.Choice _ (p.choice q c u v a b d e) = inr (inl (mark _ _ q _ a (more _ _ u (c ∷ v) b (mark _ _ c v d (last _ v e)))))
rows_of s.Cast u a = elim (casted_rows u a) as (λ _. AnyOf (rules s.Cast) u) [ inl h ↦ inl (last _ u h) | inr h ↦ inr (inl (last _ u h)) ]
rows_of s.Casted _ (p.casted_plain u a) = inl (last _ u a)
rows_of s.Casted _ (p.casted_vector u a) = inr (inl (last _ u a))
rows_of s.PlainCast _ (p.plain_cast o c u v a b d e) = inl (mark _ _ o _ a (more _ _ u (c ∷ v) b (mark _ _ c v d (last _ v e))))
rows_of s.VectorCast _ (p.vector_cast o c u v a b d e) = inl (mark _ _ o _ a (more _ _ u (c ∷ v) b (mark _ _ c v d (last _ v e))))
rows_of s.BehindVector _ (p.operands q d u a b c) = inl (mark _ _ q _ a (more _ _ u (d ∷ []) b (mark _ _ d [] c nothing)))
rows_of s.BehindVector _ (p.cast_operand u a) = inr (inl (last _ u a))
rows_of s.Unary _ (x.only_postfix u a) = inl (last _ u a)
rows_of s.Unary _ (x.incremented o op u a b) = inr (inl (one_of _ _ o u (ap is_some a) (last _ u b)))
rows_of s.Unary _ (x.prefixed o op u a b) = inr (inr (inl (one_of _ _ o u (ap is_some a) (last _ u b))))
rows_of s.Unary _ (x.size_of z u a b) = inr (inr (inr (inl (mark _ _ z u a (last _ u (p.sized_unary u b))))))
rows_of s.Unary _ (x.size_of_type z o c vector u a b d e) = inr (inr (inr (inl (mark _ _ z _ a (last _ _ (p.sized_type _ (p.type_in_brackets o c vector u b d e)))))))
rows_of s.Sized _ (p.sized_type u a) = inl (last _ u a)
rows_of s.Sized _ (p.sized_unary u a) = inr (inl (last _ u a))
rows_of s.TypeInBrackets _ (p.type_in_brackets o c vector u a b d) = inl (mark _ _ o _ a (more _ _ u (c ∷ []) (p.any_type vector u b) (mark _ _ c [] d nothing)))
rows_of s.Postfix _ (x.suffixed u v a b) = inl (more _ _ u v a (last _ v b))
rows_of s.Suffixes _ x.no_suffix = inl nothing
rows_of s.Suffixes _ (x.indexed o c u v a b d e) = inr (inl (mark _ _ o _ a (more _ _ u (c ∷ v) b (mark _ _ c v d (last _ v e)))))
rows_of s.Suffixes _ (x.member d n arrow v a b c) = inr (inr (inl (one_of _ _ d _ (ap is_some a) (mark _ _ n v b (last _ v c)))))
rows_of s.Suffixes _ (x.increments o op v a b) = inr (inr (inr (inl (one_of _ _ o v (ap is_some a) (last _ v b)))))
rows_of s.Primary _ (x.name n a) = inl (mark _ _ n [] a (last _ [] p.no_call))
rows_of s.Primary _ (x.call_of_none n o c a b d) = inl (mark _ _ n _ a (last _ _ (p.called o (c ∷ []) b (p.no_argument c d))))
rows_of s.Primary _ (x.call n o c u a b d e) = inl (mark _ _ n _ a (last _ _ (p.called o (u ++ c ∷ []) b (p.arguments c u d e))))
rows_of s.Primary _ (x.number n value ty a) = inr (inl (one_of _ _ n [] (ap is_number a) nothing))
rows_of s.Primary _ (x.brackets o c u a b d) = inr (inr (inl (mark _ _ o _ a (more _ _ u (c ∷ []) b (mark _ _ c [] d nothing)))))
rows_of s.Call _ p.no_call = inl nothing
rows_of s.Call _ (p.called o u a b) = inr (inl (mark _ _ o u a (last _ u b)))
rows_of s.Arguments _ (p.no_argument c a) = inl (mark _ _ c [] a nothing)
rows_of s.Arguments _ (p.arguments c u a b) = inr (inl (more _ _ u (c ∷ []) a (mark _ _ c [] b nothing)))
rows_of s.AnyType _ (p.any_type false u a) = inl (last _ u a)
rows_of s.AnyType _ (p.any_type true u a) = inr (inl (last _ u a))
rows_of (s.TypeTerm true) _ (x.plain_type _ u a) = inl (last _ u a)
rows_of (s.TypeTerm false) _ (x.plain_type _ u a) = inl (alone _ _ u a x.none)
rows_of (s.TypeTerm false) _ (x.pointer_type false u v a b) = inl (more _ _ u v a (last _ v (x.some v b)))
rows_of (s.TypeTerm false) _ (x.pointer_type true u v a b) = inr (inl (more _ _ u v a (last _ v b)))
rows_of s.AnySpec _ (p.any_spec false u a) = inl (last _ u a)
rows_of s.AnySpec _ (p.any_spec true u a) = inr (inl (last _ u a))
rows_of (s.Spec vector) _ (x.spec _ u v w a b c) = inl (more _ _ u (v ++ w) a (more _ _ v w b (last _ w c)))
rows_of s.Qualifiers [] a = inl nothing
rows_of s.Qualifiers (l ∷ u) a = inr (inl (one_of _ _ l u (ap is_some a.0.1) (last _ u a.1)))
rows_of (s.Base true) _ (x.type_word _ w a) = inl (one_of _ _ w [] (ap (is_whole true) a) nothing)
rows_of (s.Base false) _ (x.type_word _ w a) = inl (one_of _ _ w [] (ap (is_whole false) a) nothing)
rows_of (s.Base false) _ (x.integer u a) = inr (inl (last _ u a))
rows_of (s.Base false) _ (x.struct_name z n a b) = inr (inr (inl (mark _ _ z _ a (last _ _ (p.tagged n [] b p.no_body)))))
rows_of (s.Base false) _ (x.named_struct z n o c u count a b d e f g) = inr (inr (inl (mark _ _ z _ a (last _ _ (p.tagged n _ b (p.some_body _ (p.body o c u count d e f g)))))))
rows_of (s.Base false) _ (x.struct z o c u count a b d e f) = inr (inr (inl (mark _ _ z _ a (last _ _ (p.untagged _ (p.body o c u count b d e f))))))
rows_of s.Integer _ (x.plain u a) = inr (inl (last _ u a))
rows_of s.Integer _ (x.with_sign z signed u a b) = inl (one_of _ _ z u (ap is_some a) (last _ u (p.some_width u b)))
rows_of s.Integer _ (x.sign z signed a) = inl (one_of _ _ z [] (ap is_some a) (last _ [] p.no_width))
rows_of s.MayWidth _ p.no_width = inl nothing
rows_of s.MayWidth _ (p.some_width u a) = inr (inl (last _ u a))
rows_of s.Width _ (x.word w bits a) = width_rows w bits a
rows_of s.Width _ (x.with_int w i a b) = inr (inl (one_of _ _ w (i ∷ []) a (last _ (i ∷ []) (p.some_int i b))))
rows_of s.MayInt _ p.no_int = inl nothing
rows_of s.MayInt _ (p.some_int i a) = inr (inl (mark _ _ i [] a nothing))
rows_of s.BehindStruct _ (p.tagged n u a b) = inl (mark _ _ n u a (last _ u b))
rows_of s.BehindStruct _ (p.untagged u a) = inr (inl (last _ u a))
rows_of s.MayBody _ p.no_body = inl nothing
rows_of s.MayBody _ (p.some_body u a) = inr (inl (last _ u a))
rows_of s.Body _ (p.body o c u count a b d e) = inl (mark _ _ o _ a (more _ _ u (c ∷ []) (members_body u count b d) (mark _ _ c [] e nothing)))
rows_of (s.Members room) u (p.members_within _ count _ a b) = inl (members_are room count u a b)
rows_of (s.MayMembers zero) _ (p.no_members _) = inl nothing
rows_of (s.MayMembers zero) u (p.some_members _ _ a) = absurd (no_member u a)
rows_of (s.MayMembers (suc room)) _ (p.no_members _) = inl nothing
rows_of (s.MayMembers (suc room)) u (p.some_members _ _ a) = inr (inl (last _ u a))
rows_of (s.Names zero) u a = elim a [ ]
rows_of (s.Names (suc room)) _ (p.names_within _ u v a b) = inl (more _ _ u v a (last _ v b))
rows_of (s.BehindName zero) _ (p.names_end _ z u a b) = inl (mark _ _ z u a (last _ u b))
rows_of (s.BehindName (suc room)) _ (p.names_end _ z u a b) = inl (mark _ _ z u a (last _ u b))
rows_of (s.BehindName (suc room)) _ (p.names_go_on _ c u v a b d) = inr (inl (mark _ _ c _ a (last _ _ (p.names_within room u v b d))))
rows_of s.Declor _ (x.declor n u v a b c) = inl (more _ _ u (n ∷ v) a (mark _ _ n v b (last _ v c)))
rows_of s.MayStar _ x.none = inl nothing
rows_of s.MayStar _ (x.some u a) = inr (inl (last _ u a))
rows_of s.Star _ (x.star z u a b) = inl (mark _ _ z u a (last _ u b))
rows_of s.PointerQualifiers [] a = inl nothing
rows_of s.PointerQualifiers (l ∷ u) a = inr (inl (one_of _ _ l u (ap is_some a.0.1) (last _ u a.1)))
rows_of s.Lengths _ x.no_length = inl nothing
rows_of s.Lengths _ (x.missing_length o c v a b d) = inr (inl (mark _ _ o _ a (last _ _ (p.no_length c v b d))))
rows_of s.Lengths _ (x.length_given o c u v a b d e) = inr (inl (mark _ _ o _ a (last _ _ (p.some_length c u v b d e))))
rows_of s.Length _ (p.no_length c u a b) = inl (mark _ _ c u a (last _ u b))
rows_of s.Length _ (p.some_length c u v a b d) = inr (inl (more _ _ u (c ∷ v) a (mark _ _ c v b (last _ v d))))
rows_of s.ClosedCast u a = inl (last _ u a)

-- ---- a part from its rows

assigns_with : (u v : List Lexeme) → IsAssign u → IsMoreAssigns v → AreAssigns (u ++ v)
assigns_with u _ a p.no_more_assign = subst AreAssigns (sym (append-nil u)) (x.last_assign u a)
assigns_with u _ a (p.next_assign c v b d) = x.more_assigns c u v a b d

bin_with : (u v : List Lexeme) → IsCast u → IsRow v → IsBin (u ++ v)
bin_with u _ a p.row_ends = subst IsBin (sym (append-nil u)) (x.only_cast u a)
bin_with u _ a (p.row_goes_on o op v b c) = x.operated o op u v a b c

choice_with : (u v : List Lexeme) → IsBin u → IsChoice v → IsCond (u ++ v)
choice_with u _ a p.no_choice = subst IsCond (sym (append-nil u)) (x.only_bin u a)
choice_with u _ a (p.choice q c v w b d e f) = x.conditional q c u v w a b d e f

cond_with : (u v : List Lexeme) → IsCast u → IsBehindCast v → IsCond (u ++ v)
cond_with u _ a (p.behind_cast v w b c) = subst IsCond (append_assoc u v w) (choice_with (u ++ v) w (bin_with u v a b) c)

pub cast_of_casted : (u : List Lexeme) → IsCasted u → IsCast u
cast_of_casted _ (p.casted_plain _ (p.plain_cast o c u v a b d e)) = x.cast o c u v a b d e
cast_of_casted _ (p.casted_vector _ (p.vector_cast o c u _ a b d (p.operands q e v f g h))) = x.vector_literal o c q e u v a b d f g h
cast_of_casted _ (p.casted_vector _ (p.vector_cast o c u v a b d (p.cast_operand _ e))) = x.vector_cast o c u v a b d e.is e.closed

unary_assign_with : (u v : List Lexeme) → IsUnary u → IsBehindUnary v → IsAssign (u ++ v)
unary_assign_with u _ a (p.assigned_to o op v b c) = x.assigned o op u v a b c
unary_assign_with u v a (p.not_assigned _ b) = x.only_cond (u ++ v) (cond_with u v (x.only_unary u a) b)

assign_of_unary : (u : List Lexeme) → IsUnaryAssign u → IsAssign u
assign_of_unary _ (p.unary_assign u v a b) = unary_assign_with u v a b

assign_of_casted : (u : List Lexeme) → IsCastedAssign u → IsAssign u
assign_of_casted _ (p.casted_assign u v a b) = x.only_cond _ (cond_with u v (cast_of_casted u a) b)

sized_with : (z : Lexeme) (u : List Lexeme) → IsA t.Sizeof z → IsSized u → IsUnary (z ∷ u)
sized_with z _ a (p.sized_type _ (p.type_in_brackets o c vector u b d e)) = x.size_of_type z o c vector u a b d e
sized_with z u a (p.sized_unary _ b) = x.size_of z u a b

arguments_with : (n o : Lexeme) (u : List Lexeme) → IsA t.Name n → IsA t.OpenParen o → IsArguments u → IsPrimary (n ∷ o ∷ u)
arguments_with n o _ a b (p.no_argument c d) = x.call_of_none n o c a b d
arguments_with n o _ a b (p.arguments c u d e) = x.call n o c u a b d e

call_with : (n : Lexeme) (u : List Lexeme) → IsA t.Name n → MayBeCall u → IsPrimary (n ∷ u)
call_with n _ a p.no_call = x.name n a
call_with n _ a (p.called o u b c) = arguments_with n o u a b c

in_brackets_with : (o c : Lexeme) (u : List Lexeme) → IsA t.OpenParen o → IsAnyType u → IsA t.CloseParen c → IsTypeInBrackets (o ∷ (u ++ c ∷ []))
in_brackets_with o c u a (p.any_type vector _ b) d = p.type_in_brackets o c vector u a b d

star_with : (u v : List Lexeme) → IsSpec false u → MayBeStar v → IsTypeTerm false (u ++ v)
star_with u _ a x.none = subst (IsTypeTerm false) (sym (append-nil u)) (x.plain_type false u a)
star_with u v a (x.some _ b) = x.pointer_type false u v a b

body_with : (z n : Lexeme) (u : List Lexeme) → IsA t.Struct z → IsA t.Name n → MayBeBody u → IsBase false (z ∷ n ∷ u)
body_with z n _ a b p.no_body = x.struct_name z n a b
body_with z n _ a b (p.some_body _ (p.body o c u count d e f g)) = x.named_struct z n o c u count a b d e f g

struct_with : (z : Lexeme) (u : List Lexeme) → IsA t.Struct z → IsBehindStruct u → IsBase false (z ∷ u)
struct_with z _ a (p.tagged n u b c) = body_with z n u a b c
struct_with z _ a (p.untagged _ (p.body o c u count d e f g)) = x.struct z o c u count a d e f g

width_with : (z : Lexeme) (u : List Lexeme) → (signed : Bool) → sign_of z.terminal ≡ Some signed → MayBeWidth u → IsInteger (z ∷ u)
width_with z _ signed a p.no_width = x.sign z signed a
width_with z u signed a (p.some_width _ b) = x.with_sign z signed u a b

int_with : (w : Lexeme) (u : List Lexeme) → takes_int w.terminal ≡ true → MayBeInt u → IsWidth (w ∷ u)
int_with w _ a p.no_int = let b = long_width w.terminal a in x.word w b.0 b.1
int_with w _ a (p.some_int i b) = x.with_int w i a b

length_with : (o : Lexeme) (u : List Lexeme) → IsA t.OpenBracket o → IsLength u → AreLengths (o ∷ u)
length_with o _ a (p.no_length c u b d) = x.missing_length o c u a b d
length_with o _ a (p.some_length c u v b d e) = x.length_given o c u v a b d e

names_with : (room : ℕ) (c : Lexeme) (u : List Lexeme) → IsA t.Comma c → IsNamesWithin (suc room) u → IsBehindName (suc room) (c ∷ u)
names_with room c _ a (p.names_within _ u v b d) = p.names_go_on room c u v a b d

body_of : (o c : Lexeme) (u : List Lexeme) → IsA t.OpenBrace o → IsMembersWithin 65500 u → IsA t.CloseBrace c → IsBody (o ∷ (u ++ c ∷ []))
body_of o c u a (p.members_within _ count _ b d) e = p.body o c u count a b d e

qualifiers_with : (l : Lexeme) (u : List Lexeme) → belongs s.Qualifier l.terminal ≡ true → AreQualifiers u → AreQualifiers (l ∷ u)
qualifiers_with l u a b = (some_of (qualifier_of l.terminal) a, b)

pointer_qualifiers_with : (l : Lexeme) (u : List Lexeme) → belongs s.PointerQualifier l.terminal ≡ true → ArePointerQualifiers u → ArePointerQualifiers (l ∷ u)
pointer_qualifiers_with l u a b = (some_of (pointer_qualifier_of l.terminal) a, b)

-- what a row of a mark, a part, a mark and a part stands for
mid_split : (o c : Lexeme) (u z w r v : List Lexeme) → u ≡ o ∷ z → z ≡ w ++ r → r ≡ c ∷ v → u ≡ o ∷ (w ++ c ∷ v)
mid_split o c u z w r v a b d = a ∙ ap (λ y. o ∷ y) (b ∙ ap (λ y. w ++ y) d)

-- a mark, a part and a mark, and then a part or nothing
pub record Enclosed (o c : Terminal) (y : Sym) (ys : List Sym) (u : List Lexeme) : Type 0 where
  pub first : Lexeme
  pub second : Lexeme
  pub part : List Lexeme
  pub rest : List Lexeme
  pub opens : IsA o first
  pub is : Is y part
  pub closes : IsA c second
  pub behind : Fills ys rest
  pub split : u ≡ first ∷ (part ++ second ∷ rest)

enclosed : (o c : Terminal) (y : Sym) (ys : List Sym) (u : List Lexeme) → Fills (Mark o ∷ y ∷ Mark c ∷ ys) u → Enclosed o c y ys u
enclosed o c y ys u f =
    let a = marked o (y ∷ Mark c ∷ ys) u f in
    let b = parted y (Mark c ∷ ys) a.rest a.behind in
    let d = marked c ys b.rest b.behind in
    record { first = a.token; second = d.token; part = b.part; rest = d.rest; opens = a.stands; is = b.is; closes = d.stands; behind = d.behind; split = mid_split a.token d.token u a.rest b.part b.rest d.rest a.split b.split d.split }

-- the same with nothing behind it
closed_split : (o c : Lexeme) (u w r : List Lexeme) → u ≡ o ∷ (w ++ c ∷ r) → r ≡ [] → u ≡ o ∷ (w ++ c ∷ [])
closed_split o c u w r a b = a ∙ ap (λ y. o ∷ (w ++ c ∷ y)) b

one_split : (l : Lexeme) (u r : List Lexeme) → u ≡ l ∷ r → r ≡ [] → u ≡ l ∷ []
one_split l u r a b = a ∙ ap (λ y. l ∷ y) b

pub part_of : (y : ExprSym) (u : List Lexeme) → AnyOf (rules y) u → IsE y u
part_of s.Assigns u (inl f) = let a = parted _ _ u f in subst AreAssigns (sym a.split) (assigns_with a.part a.rest a.is (only _ _ a.behind))
part_of s.MoreAssigns u (inl f) = subst IsMoreAssigns (sym f.are) p.no_more_assign
part_of s.MoreAssigns u (inr (inl f)) = let a = marked _ _ u f in subst IsMoreAssigns (sym a.split) (p.next_assign a.token a.rest a.stands (only _ _ a.behind))
part_of s.Assign u (inl f) = assign_of_unary u (only _ u f)
part_of s.Assign u (inr (inl f)) = assign_of_casted u (only _ u f)
part_of s.UnaryAssign u (inl f) = let a = parted _ _ u f in subst IsUnaryAssign (sym a.split) (p.unary_assign a.part a.rest a.is (only _ _ a.behind))
part_of s.CastedAssign u (inl f) = let a = parted _ _ u f in subst IsCastedAssign (sym a.split) (p.casted_assign a.part a.rest a.is (only _ _ a.behind))
part_of s.BehindUnary u (inl f) = let a = chosen _ _ u f in let o = some_of (assignment_of a.token.terminal) a.stands in subst IsBehindUnary (sym a.split) (p.assigned_to a.token o.0 a.rest o.1 (only _ _ a.behind))
part_of s.BehindUnary u (inr (inl f)) = p.not_assigned u (only _ u f)
part_of s.BehindCast u (inl f) = let a = parted _ _ u f in subst IsBehindCast (sym a.split) (p.behind_cast a.part a.rest a.is (only _ _ a.behind))
part_of s.Cond u (inl f) = let a = parted _ _ u f in subst IsCond (sym a.split) (cond_with a.part a.rest a.is (only _ _ a.behind))
part_of s.Bin u (inl f) = let a = parted _ _ u f in subst IsBin (sym a.split) (bin_with a.part a.rest a.is (only _ _ a.behind))
part_of s.Row u (inl f) = subst IsRow (sym f.are) p.row_ends
part_of s.Row u (inr (inl f)) = let a = chosen _ _ u f in let o = some_of (binary_of a.token.terminal) a.stands in subst IsRow (sym a.split) (p.row_goes_on a.token o.0 a.rest o.1 (only _ _ a.behind))
part_of s.Choice u (inl f) = subst IsChoice (sym f.are) p.no_choice
part_of s.Choice u (inr (inl f)) = let e = enclosed _ _ _ _ u f in subst IsChoice (sym e.split) (p.choice e.first e.second e.part e.rest e.opens e.is e.closes (only _ _ e.behind))
part_of s.Cast u (inl f) = x.only_unary u (only _ u f)
part_of s.Cast u (inr (inl f)) = cast_of_casted u (only _ u f)
part_of s.Casted u (inl f) = p.casted_plain u (only _ u f)
part_of s.Casted u (inr (inl f)) = p.casted_vector u (only _ u f)
part_of s.PlainCast u (inl f) = let e = enclosed _ _ _ _ u f in subst IsPlainCast (sym e.split) (p.plain_cast e.first e.second e.part e.rest e.opens e.is e.closes (only _ _ e.behind))
part_of s.VectorCast u (inl f) = let e = enclosed _ _ _ _ u f in subst IsVectorCast (sym e.split) (p.vector_cast e.first e.second e.part e.rest e.opens e.is e.closes (only _ _ e.behind))
part_of s.BehindVector u (inl f) = let e = enclosed _ _ _ _ u f in subst IsBehindVector (sym (closed_split _ _ _ _ _ e.split e.behind.are)) (p.operands e.first e.second e.part e.opens e.is e.closes)
part_of s.BehindVector u (inr (inl f)) = p.cast_operand u (only _ u f)
part_of s.ClosedCast u (inl f) = only _ u f
part_of s.Unary u (inl f) = x.only_postfix u (only _ u f)
part_of s.Unary u (inr (inl f)) = let a = chosen _ _ u f in let o = some_of (increment_before a.token.terminal) a.stands in subst IsUnary (sym a.split) (x.incremented a.token o.0 a.rest o.1 (only _ _ a.behind))
part_of s.Unary u (inr (inr (inl f))) = let a = chosen _ _ u f in let o = some_of (prefix_of a.token.terminal) a.stands in subst IsUnary (sym a.split) (x.prefixed a.token o.0 a.rest o.1 (only _ _ a.behind))
part_of s.Unary u (inr (inr (inr (inl f)))) = let a = marked _ _ u f in subst IsUnary (sym a.split) (sized_with a.token a.rest a.stands (only _ _ a.behind))
part_of s.Sized u (inl f) = p.sized_type u (only _ u f)
part_of s.Sized u (inr (inl f)) = p.sized_unary u (only _ u f)
part_of s.TypeInBrackets u (inl f) = let e = enclosed _ _ _ _ u f in subst IsTypeInBrackets (sym (closed_split _ _ _ _ _ e.split e.behind.are)) (in_brackets_with e.first e.second e.part e.opens e.is e.closes)
part_of s.Postfix u (inl f) = let a = parted _ _ u f in subst IsPostfix (sym a.split) (x.suffixed a.part a.rest a.is (only _ _ a.behind))
part_of s.Suffixes u (inl f) = subst AreSuffixes (sym f.are) x.no_suffix
part_of s.Suffixes u (inr (inl f)) = let e = enclosed _ _ _ _ u f in subst AreSuffixes (sym e.split) (x.indexed e.first e.second e.part e.rest e.opens e.is e.closes (only _ _ e.behind))
part_of s.Suffixes u (inr (inr (inl f))) =
    let a = chosen _ _ u f in let b = marked _ _ _ a.behind in let o = some_of (arrow_of a.token.terminal) a.stands in
    subst AreSuffixes (sym (a.split ∙ ap (λ z. a.token ∷ z) b.split)) (x.member a.token b.token o.0 b.rest o.1 b.stands (only _ _ b.behind))
part_of s.Suffixes u (inr (inr (inr (inl f)))) = let a = chosen _ _ u f in let o = some_of (increment_behind a.token.terminal) a.stands in subst AreSuffixes (sym a.split) (x.increments a.token o.0 a.rest o.1 (only _ _ a.behind))
part_of s.Primary u (inl f) = let a = marked _ _ u f in subst IsPrimary (sym a.split) (call_with a.token a.rest a.stands (only _ _ a.behind))
part_of s.Primary u (inr (inl f)) = let a = chosen _ _ u f in let n = number_is a.token.terminal a.stands in subst IsPrimary (sym (one_split _ _ _ a.split a.behind.are)) (x.number a.token n.0 n.1 n.2)
part_of s.Primary u (inr (inr (inl f))) = let e = enclosed _ _ _ _ u f in subst IsPrimary (sym (closed_split _ _ _ _ _ e.split e.behind.are)) (x.brackets e.first e.second e.part e.opens e.is e.closes)
part_of s.Call u (inl f) = subst MayBeCall (sym f.are) p.no_call
part_of s.Call u (inr (inl f)) = let a = marked _ _ u f in subst MayBeCall (sym a.split) (p.called a.token a.rest a.stands (only _ _ a.behind))
part_of s.Arguments u (inl f) = let a = marked _ _ u f in subst IsArguments (sym (one_split _ _ _ a.split a.behind.are)) (p.no_argument a.token a.stands)
part_of s.Arguments u (inr (inl f)) = let a = parted _ _ u f in let b = marked _ _ _ a.behind in
    subst IsArguments (sym (a.split ∙ ap (λ z. a.part ++ z) (one_split _ _ _ b.split b.behind.are))) (p.arguments b.token a.part a.is b.stands)
part_of s.AnyType u (inl f) = p.any_type false u (only _ u f)
part_of s.AnyType u (inr (inl f)) = p.any_type true u (only _ u f)
part_of (s.TypeTerm false) u (inl f) = let a = parted _ _ u f in subst (IsTypeTerm false) (sym a.split) (star_with a.part a.rest a.is (only _ _ a.behind))
part_of (s.TypeTerm false) u (inr (inl f)) = let a = parted _ _ u f in subst (IsTypeTerm false) (sym a.split) (x.pointer_type true a.part a.rest a.is (only _ _ a.behind))
part_of (s.TypeTerm true) u (inl f) = x.plain_type true u (only _ u f)
part_of s.AnySpec u (inl f) = p.any_spec false u (only _ u f)
part_of s.AnySpec u (inr (inl f)) = p.any_spec true u (only _ u f)
part_of (s.Spec vector) u (inl f) = let a = parted _ _ u f in let b = parted _ _ _ a.behind in
    subst (IsSpec vector) (sym (a.split ∙ ap (λ z. a.part ++ z) b.split)) (x.spec vector a.part b.part b.rest a.is b.is (only _ _ b.behind))
part_of s.Qualifiers u (inl f) = subst AreQualifiers (sym f.are) tt
part_of s.Qualifiers u (inr (inl f)) = let a = chosen _ _ u f in subst AreQualifiers (sym a.split) (qualifiers_with a.token a.rest a.stands (only _ _ a.behind))
part_of (s.Base true) u (inl f) = let a = chosen _ _ u f in subst (IsBase true) (sym (one_split _ _ _ a.split a.behind.are)) (x.type_word true a.token (whole_is true (whole_type a.token.terminal) a.stands))
part_of (s.Base false) u (inl f) = let a = chosen _ _ u f in subst (IsBase false) (sym (one_split _ _ _ a.split a.behind.are)) (x.type_word false a.token (whole_is false (whole_type a.token.terminal) a.stands))
part_of (s.Base false) u (inr (inl f)) = x.integer u (only _ u f)
part_of (s.Base false) u (inr (inr (inl f))) = let a = marked _ _ u f in subst (IsBase false) (sym a.split) (struct_with a.token a.rest a.stands (only _ _ a.behind))
part_of s.Integer u (inl f) = let a = chosen _ _ u f in let o = some_of (sign_of a.token.terminal) a.stands in subst IsInteger (sym a.split) (width_with a.token a.rest o.0 o.1 (only _ _ a.behind))
part_of s.Integer u (inr (inl f)) = x.plain u (only _ u f)
part_of s.MayWidth u (inl f) = subst MayBeWidth (sym f.are) p.no_width
part_of s.MayWidth u (inr (inl f)) = p.some_width u (only _ u f)
part_of s.Width u (inl f) = let a = chosen _ _ u f in let o = lone_width a.token.terminal a.stands in subst IsWidth (sym (one_split _ _ _ a.split a.behind.are)) (x.word a.token o.0 o.1)
part_of s.Width u (inr (inl f)) = let a = chosen _ _ u f in subst IsWidth (sym a.split) (int_with a.token a.rest a.stands (only _ _ a.behind))
part_of s.MayInt u (inl f) = subst MayBeInt (sym f.are) p.no_int
part_of s.MayInt u (inr (inl f)) = let a = marked _ _ u f in subst MayBeInt (sym (one_split _ _ _ a.split a.behind.are)) (p.some_int a.token a.stands)
part_of s.BehindStruct u (inl f) = let a = marked _ _ u f in subst IsBehindStruct (sym a.split) (p.tagged a.token a.rest a.stands (only _ _ a.behind))
part_of s.BehindStruct u (inr (inl f)) = p.untagged u (only _ u f)
part_of s.MayBody u (inl f) = subst MayBeBody (sym f.are) p.no_body
part_of s.MayBody u (inr (inl f)) = p.some_body u (only _ u f)
part_of s.Body u (inl f) = let e = enclosed _ _ _ _ u f in subst IsBody (sym (closed_split _ _ _ _ _ e.split e.behind.are)) (body_of e.first e.second e.part e.opens e.is e.closes)
part_of (s.Members room) u (inl f) = let a = parted _ _ u f in subst (IsMembersWithin room) (sym a.split) (members_of room a.part a.rest a.is (only _ _ a.behind))
part_of (s.MayMembers zero) u (inl f) = subst (MayBeMembersWithin zero) (sym f.are) (p.no_members zero)
part_of (s.MayMembers (suc room)) u (inl f) = subst (MayBeMembersWithin (suc room)) (sym f.are) (p.no_members (suc room))
part_of (s.MayMembers (suc room)) u (inr (inl f)) = p.some_members (suc room) u (only _ u f)
part_of (s.Names (suc room)) u (inl f) = let a = parted _ _ u f in subst (IsNamesWithin (suc room)) (sym a.split) (p.names_within room a.part a.rest a.is (only _ _ a.behind))
part_of (s.BehindName zero) u (inl f) = let a = marked _ _ u f in subst (IsBehindName zero) (sym a.split) (p.names_end zero a.token a.rest a.stands (only _ _ a.behind))
part_of (s.BehindName (suc room)) u (inl f) = let a = marked _ _ u f in subst (IsBehindName (suc room)) (sym a.split) (p.names_end (suc room) a.token a.rest a.stands (only _ _ a.behind))
part_of (s.BehindName (suc room)) u (inr (inl f)) = let a = marked _ _ u f in subst (IsBehindName (suc room)) (sym a.split) (names_with room a.token a.rest a.stands (only _ _ a.behind))
part_of s.Declor u (inl f) = let a = parted _ _ u f in let b = marked _ _ _ a.behind in
    subst IsDeclor (sym (a.split ∙ ap (λ z. a.part ++ z) b.split)) (x.declor b.token a.part b.rest a.is b.stands (only _ _ b.behind))
part_of s.MayStar u (inl f) = subst MayBeStar (sym f.are) x.none
part_of s.MayStar u (inr (inl f)) = x.some u (only _ u f)
part_of s.Star u (inl f) = let a = marked _ _ u f in subst IsStar (sym a.split) (x.star a.token a.rest a.stands (only _ _ a.behind))
part_of s.PointerQualifiers u (inl f) = subst ArePointerQualifiers (sym f.are) tt
part_of s.PointerQualifiers u (inr (inl f)) = let a = chosen _ _ u f in subst ArePointerQualifiers (sym a.split) (pointer_qualifiers_with a.token a.rest a.stands (only _ _ a.behind))
part_of s.Lengths u (inl f) = subst AreLengths (sym f.are) x.no_length
part_of s.Lengths u (inr (inl f)) = let a = marked _ _ u f in subst AreLengths (sym a.split) (length_with a.token a.rest a.stands (only _ _ a.behind))
part_of s.Length u (inl f) = let a = marked _ _ u f in subst IsLength (sym a.split) (p.no_length a.token a.rest a.stands (only _ _ a.behind))
part_of s.Length u (inr (inl f)) = let a = parted _ _ u f in let b = marked _ _ _ a.behind in
    subst IsLength (sym (a.split ∙ ap (λ z. a.part ++ z) b.split)) (p.some_length b.token a.part b.rest a.is b.stands (only _ _ b.behind))
part_of s.Assigns u (inr e) = absurd e
part_of s.MoreAssigns u (inr (inr e)) = absurd e
part_of s.Assign u (inr (inr e)) = absurd e
part_of s.UnaryAssign u (inr e) = absurd e
part_of s.CastedAssign u (inr e) = absurd e
part_of s.BehindUnary u (inr (inr e)) = absurd e
part_of s.BehindCast u (inr e) = absurd e
part_of s.Cond u (inr e) = absurd e
part_of s.Bin u (inr e) = absurd e
part_of s.Row u (inr (inr e)) = absurd e
part_of s.Choice u (inr (inr e)) = absurd e
part_of s.Cast u (inr (inr e)) = absurd e
part_of s.Casted u (inr (inr e)) = absurd e
part_of s.PlainCast u (inr e) = absurd e
part_of s.VectorCast u (inr e) = absurd e
part_of s.BehindVector u (inr (inr e)) = absurd e
part_of s.ClosedCast u (inr e) = absurd e
part_of s.Unary u (inr (inr (inr (inr e)))) = absurd e
part_of s.Sized u (inr (inr e)) = absurd e
part_of s.TypeInBrackets u (inr e) = absurd e
part_of s.Postfix u (inr e) = absurd e
part_of s.Suffixes u (inr (inr (inr (inr e)))) = absurd e
part_of s.Primary u (inr (inr (inr e))) = absurd e
part_of s.Call u (inr (inr e)) = absurd e
part_of s.Arguments u (inr (inr e)) = absurd e
part_of s.AnyType u (inr (inr e)) = absurd e
part_of (s.TypeTerm false) u (inr (inr e)) = absurd e
part_of (s.TypeTerm true) u (inr e) = absurd e
part_of s.AnySpec u (inr (inr e)) = absurd e
part_of (s.Spec vector) u (inr e) = absurd e
part_of s.Qualifiers u (inr (inr e)) = absurd e
part_of (s.Base true) u (inr e) = absurd e
part_of (s.Base false) u (inr (inr (inr e))) = absurd e
part_of s.Integer u (inr (inr e)) = absurd e
part_of s.MayWidth u (inr (inr e)) = absurd e
part_of s.Width u (inr (inr e)) = absurd e
part_of s.MayInt u (inr (inr e)) = absurd e
part_of s.BehindStruct u (inr (inr e)) = absurd e
part_of s.MayBody u (inr (inr e)) = absurd e
part_of s.Body u (inr e) = absurd e
part_of (s.Members room) u (inr e) = absurd e
part_of (s.MayMembers zero) u (inr e) = absurd e
part_of (s.MayMembers (suc room)) u (inr (inr e)) = absurd e
part_of (s.Names (suc room)) u (inr e) = absurd e
part_of (s.BehindName zero) u (inr e) = absurd e
part_of (s.BehindName (suc room)) u (inr (inr e)) = absurd e
part_of s.Declor u (inr e) = absurd e
part_of s.MayStar u (inr (inr e)) = absurd e
part_of s.Star u (inr e) = absurd e
part_of s.PointerQualifiers u (inr (inr e)) = absurd e
part_of s.Lengths u (inr (inr e)) = absurd e
part_of s.Length u (inr (inr e)) = absurd e
part_of (s.Names zero) u e = absurd e
