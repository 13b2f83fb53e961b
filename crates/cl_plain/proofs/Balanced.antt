-- Brackets of a part of the grammar close within it.
use Rattle.std.proofs.Common.{◌≡◌, ℕ, suc, zero, Bool, true, false, List, [], ◌∷◌, ◌++◌, Option, Some, refl, ap, ◌∙◌, append_assoc}
use Rattle.cl_types.specs.declared.operator.UnOp.{UnOp}
use Rattle.cl_types.specs.declared.operator.BinOp.{BinOp}
use Rattle.cl_ast.specs.declared.expression.Qual.{Qual}
use Rattle.cl_grammar.specs.declared.lexeme.Lexeme.{Lexeme}
use Rattle.cl_grammar.specs.declared.terminal.Terminal.{Terminal}
use Rattle.cl_grammar.specs.declared.terminal.Terminal.TheVariants as t
use Rattle.cl_grammar.specs.Terminals.{qualifier_of, pointer_qualifier_of, whole_type, sign_of, width_of, takes_int, prefix_of, increment_before, increment_behind, arrow_of, binary_of, assignment_of}
use Rattle.cl_grammar.specs.Expressions

pub data Bracket : Type 0 where
  opens : Bracket
  closes : Bracket
  other : Bracket

abbrev pub bracket_of : Terminal → Bracket
bracket_of t.OpenParen = opens
bracket_of t.OpenBracket = opens
bracket_of t.OpenBrace = opens
bracket_of t.CloseParen = closes
bracket_of t.CloseBracket = closes
bracket_of t.CloseBrace = closes
bracket_of _ = other

abbrev pub past_by : Bracket → List Lexeme → List Lexeme → List Lexeme → List Lexeme
past_by opens deeper out on = deeper
past_by closes deeper out on = out
past_by other deeper out on = on

-- the tokens behind so many brackets that close
abbrev pub past : ℕ → List Lexeme → List Lexeme
past zero ls = ls
past (suc d) [] = []
past (suc d) (l ∷ ls) = past_by (bracket_of l.terminal) (past (suc (suc d)) ls) (past d ls) (past (suc d) ls)

-- within brackets, what is behind these tokens follows
pub record Balanced (u : List Lexeme) : Type 0 where
  pub on : (d : ℕ) (r : List Lexeme) → past (suc d) (u ++ r) ≡ past (suc d) r

past_open : (d : ℕ) (l : Lexeme) (ls : List Lexeme) → bracket_of l.terminal ≡ opens → past (suc d) (l ∷ ls) ≡ past (suc (suc d)) ls
past_open d l ls e = ap (λ z. past_by z (past (suc (suc d)) ls) (past d ls) (past (suc d) ls)) e

pub past_close : (d : ℕ) (l : Lexeme) (ls : List Lexeme) → bracket_of l.terminal ≡ closes → past (suc d) (l ∷ ls) ≡ past d ls
past_close d l ls e = ap (λ z. past_by z (past (suc (suc d)) ls) (past d ls) (past (suc d) ls)) e

past_other : (d : ℕ) (l : Lexeme) (ls : List Lexeme) → bracket_of l.terminal ≡ other → past (suc d) (l ∷ ls) ≡ past (suc d) ls
past_other d l ls e = ap (λ z. past_by z (past (suc (suc d)) ls) (past d ls) (past (suc d) ls)) e

nothing : Balanced []
nothing = record { on = λ d r. refl }

token : (l : Lexeme) (u : List Lexeme) → bracket_of l.terminal ≡ other → Balanced u → Balanced (l ∷ u)
token l u e b = record { on = λ d r. past_other d l (u ++ r) e ∙ b.on d r }

both : (u v : List Lexeme) → Balanced u → Balanced v → Balanced (u ++ v)
both u v a b = record { on = λ d r. ap (past (suc d)) (append_assoc u v r) ∙ (a.on d (v ++ r) ∙ b.on d r) }

within : (o : Lexeme) (u : List Lexeme) (c : Lexeme) (v : List Lexeme) → bracket_of o.terminal ≡ opens → Balanced u → bracket_of c.terminal ≡ closes → Balanced v → Balanced (o ∷ (u ++ c ∷ v))
within o u c v ho a hc b = record { on = λ d r. past_open d o ((u ++ c ∷ v) ++ r) ho ∙ (ap (past (suc (suc d))) (append_assoc u (c ∷ v) r) ∙ (a.on (suc d) (c ∷ (v ++ r)) ∙ (past_close (suc d) c (v ++ r) hc ∙ b.on d r))) }

-- ---- tokens that are no brackets

qualifier : (l : Terminal) (q : Qual) → qualifier_of l ≡ Some q → bracket_of l ≡ other
qualifier t.Const q e = refl
qualifier t.Volatile q e = refl
qualifier (t.Space s) q e = refl
qualifier _ q e = absurd (cc)

pointer_qualifier : (l : Terminal) (q : Qual) → pointer_qualifier_of l ≡ Some q → bracket_of l ≡ other
pointer_qualifier t.Const q e = refl
pointer_qualifier t.Volatile q e = refl
pointer_qualifier t.Restrict q e = refl
pointer_qualifier _ q e = absurd (cc)

whole : (l : Terminal) (b : Bool) → whole_type l ≡ Some b → bracket_of l ≡ other
whole t.Void b e = refl
whole t.Bool b e = refl
whole (t.UnsignedInt bits) b e = refl
whole (t.Vector bits signed n) b e = refl
whole (t.Sized signed) b e = refl
whole (t.TypeName vector) b e = refl
whole _ b e = absurd (cc)

signs : (l : Terminal) (b : Bool) → sign_of l ≡ Some b → bracket_of l ≡ other
signs t.Signed b e = refl
signs t.Unsigned b e = refl
signs _ b e = absurd (cc)

widths : (l : Terminal) (n : ℕ) → width_of l ≡ Some n → bracket_of l ≡ other
widths t.Char n e = refl
widths t.Short n e = refl
widths t.Int n e = refl
widths t.Long n e = refl
widths _ n e = absurd (cc)

takes : (l : Terminal) → takes_int l ≡ true → bracket_of l ≡ other
takes t.Short e = refl
takes t.Long e = refl
takes _ e = absurd (cc)

prefix : (l : Terminal) (op : UnOp) → prefix_of l ≡ Some op → bracket_of l ≡ other
prefix t.Plus op e = refl
prefix t.Minus op e = refl
prefix t.Tilde op e = refl
prefix t.Exclamation op e = refl
prefix t.Star op e = refl
prefix t.Ampersand op e = refl
prefix _ op e = absurd (cc)

before : (l : Terminal) (op : UnOp) → increment_before l ≡ Some op → bracket_of l ≡ other
before t.Increment op e = refl
before t.Decrement op e = refl
before _ op e = absurd (cc)

behind : (l : Terminal) (op : UnOp) → increment_behind l ≡ Some op → bracket_of l ≡ other
behind t.Increment op e = refl
behind t.Decrement op e = refl
behind _ op e = absurd (cc)

arrow : (l : Terminal) (b : Bool) → arrow_of l ≡ Some b → bracket_of l ≡ other
arrow t.Dot b e = refl
arrow t.Arrow b e = refl
arrow _ b e = absurd (cc)

binary : (l : Terminal) (op : BinOp) → binary_of l ≡ Some op → bracket_of l ≡ other
binary t.Star op e = refl
binary t.Plus op e = refl
binary t.Minus op e = refl
binary t.Ampersand op e = refl
binary (t.Infix o) op e = refl
binary _ op e = absurd (cc)

assignment : (l : Terminal) (op : Option BinOp) → assignment_of l ≡ Some op → bracket_of l ≡ other
assignment t.Equals op e = refl
assignment (t.Compound o) op e = refl
assignment _ op e = absurd (cc)

-- ---- parts of the grammar

qualifiers : (u : List Lexeme) → Expressions.AreQualifiers u → Balanced u
qualifiers [] h = nothing
qualifiers (l ∷ u) h = token l u (qualifier l.terminal h.0.0 h.0.1) (qualifiers u h.1)

pointer_qualifiers : (u : List Lexeme) → Expressions.ArePointerQualifiers u → Balanced u
pointer_qualifiers [] h = nothing
pointer_qualifiers (l ∷ u) h = token l u (pointer_qualifier l.terminal h.0.0 h.0.1) (pointer_qualifiers u h.1)

star : (u : List Lexeme) → Expressions.IsStar u → Balanced u
star _ (Expressions.star s u h k) = token s u (ap bracket_of h) (pointer_qualifiers u k)

maybe_star : (u : List Lexeme) → Expressions.MayBeStar u → Balanced u
maybe_star _ Expressions.MayBeStar.none = nothing
maybe_star _ (Expressions.MayBeStar.some u h) = star u h

width : (u : List Lexeme) → Expressions.IsWidth u → Balanced u
width _ (Expressions.word w bits h) = token w [] (widths w.terminal bits h) nothing
width _ (Expressions.with_int w i h hi) = token w (i ∷ []) (takes w.terminal h) (token i [] (ap bracket_of hi) nothing)

integer : (u : List Lexeme) → Expressions.IsInteger u → Balanced u
integer _ (Expressions.plain u h) = width u h
integer _ (Expressions.with_sign s b u h k) = token s u (signs s.terminal b h) (width u k)
integer _ (Expressions.sign s b h) = token s [] (signs s.terminal b h) nothing

mutual
  pub specs_balanced : (vector : Bool) (u : List Lexeme) → Expressions.IsSpec vector u → Balanced u
  specs_balanced _ _ (Expressions.spec vector u v w a b c) = both u (v ++ w) (qualifiers u a) (both v w (base vector v b) (qualifiers w c))

  base : (vector : Bool) (u : List Lexeme) → Expressions.IsBase vector u → Balanced u
  base _ _ (Expressions.type_word vector w h) = token w [] (whole w.terminal vector h) nothing
  base _ _ (Expressions.integer u h) = integer u h
  base _ _ (Expressions.struct_name s n h k) = token s (n ∷ []) (ap bracket_of h) (token n [] (ap bracket_of k) nothing)
  base _ _ (Expressions.named_struct s n o c u count h k ho hu le hc) = token s (n ∷ o ∷ (u ++ c ∷ [])) (ap bracket_of h) (token n (o ∷ (u ++ c ∷ [])) (ap bracket_of k) (within o u c [] (ap bracket_of ho) (members_balanced count u hu) (ap bracket_of hc) nothing))
  base _ _ (Expressions.struct s o c u count h ho hu le hc) = token s (o ∷ (u ++ c ∷ [])) (ap bracket_of h) (within o u c [] (ap bracket_of ho) (members_balanced count u hu) (ap bracket_of hc) nothing)

  pub members_balanced : (count : ℕ) (u : List Lexeme) → Expressions.AreMembers count u → Balanced u
  members_balanced _ _ (Expressions.last_member count vector s u v a b h) = both u (v ++ s ∷ []) (specs_balanced vector u a) (both v (s ∷ []) (declors count v b) (token s [] (ap bracket_of h) nothing))
  members_balanced _ _ (Expressions.more_members count rest vector s u v w a b h c) = both u (v ++ s ∷ w) (specs_balanced vector u a) (both v (s ∷ w) (declors count v b) (token s w (ap bracket_of h) (members_balanced rest w c)))

  declors : (count : ℕ) (u : List Lexeme) → Expressions.AreDeclors count u → Balanced u
  declors _ _ (Expressions.last_declor u h) = one_declor u h
  declors _ _ (Expressions.more_declors count c u v h hc k) = both u (c ∷ v) (one_declor u h) (token c v (ap bracket_of hc) (declors count v k))

  one_declor : (u : List Lexeme) → Expressions.IsDeclor u → Balanced u
  one_declor _ (Expressions.declor n u v a h b) = both u (n ∷ v) (maybe_star u a) (token n v (ap bracket_of h) (lengths v b))

  lengths : (u : List Lexeme) → Expressions.AreLengths u → Balanced u
  lengths _ Expressions.no_length = nothing
  lengths _ (Expressions.missing_length o c v ho hc h) = within o [] c v (ap bracket_of ho) nothing (ap bracket_of hc) (lengths v h)
  lengths _ (Expressions.length_given o c u v ho h hc k) = within o u c v (ap bracket_of ho) (cond u h) (ap bracket_of hc) (lengths v k)

  term : (vector : Bool) (u : List Lexeme) → Expressions.IsTypeTerm vector u → Balanced u
  term _ _ (Expressions.plain_type vector u h) = specs_balanced vector u h
  term _ _ (Expressions.pointer_type vector u v h k) = both u v (specs_balanced vector u h) (star v k)

  assigns : (u : List Lexeme) → Expressions.AreAssigns u → Balanced u
  assigns _ (Expressions.last_assign u h) = assign u h
  assigns _ (Expressions.more_assigns c u v h hc k) = both u (c ∷ v) (assign u h) (token c v (ap bracket_of hc) (assigns v k))

  assign : (u : List Lexeme) → Expressions.IsAssign u → Balanced u
  assign _ (Expressions.only_cond u h) = cond u h
  assign _ (Expressions.assigned o op u v h ho k) = both u (o ∷ v) (unary u h) (token o v (assignment o.terminal op ho) (assign v k))

  cond : (u : List Lexeme) → Expressions.IsCond u → Balanced u
  cond _ (Expressions.only_bin u h) = bin u h
  cond _ (Expressions.conditional q c u v w h hq k hc j) = both u (q ∷ (v ++ c ∷ w)) (bin u h) (token q (v ++ c ∷ w) (ap bracket_of hq) (both v (c ∷ w) (assign v k) (token c w (ap bracket_of hc) (cond w j))))

  bin : (u : List Lexeme) → Expressions.IsBin u → Balanced u
  bin _ (Expressions.only_cast u h) = cast u h
  bin _ (Expressions.operated o op u v h ho k) = both u (o ∷ v) (cast u h) (token o v (binary o.terminal op ho) (bin v k))

  cast : (u : List Lexeme) → Expressions.IsCast u → Balanced u
  cast _ (Expressions.only_unary u h) = unary u h
  cast _ (Expressions.cast o c u v ho h hc k) = within o u c v (ap bracket_of ho) (term false u h) (ap bracket_of hc) (cast v k)
  cast _ (Expressions.vector_cast o c u v ho h hc k e) = within o u c v (ap bracket_of ho) (term true u h) (ap bracket_of hc) (cast v k)
  cast _ (Expressions.vector_literal o c p d u v ho h hc hp k hd) = within o u c (p ∷ (v ++ d ∷ [])) (ap bracket_of ho) (term true u h) (ap bracket_of hc) (within p v d [] (ap bracket_of hp) (assigns v k) (ap bracket_of hd) nothing)

  unary : (u : List Lexeme) → Expressions.IsUnary u → Balanced u
  unary _ (Expressions.only_postfix u h) = postfix u h
  unary _ (Expressions.incremented o op u ho h) = token o u (before o.terminal op ho) (unary u h)
  unary _ (Expressions.prefixed o op u ho h) = token o u (prefix o.terminal op ho) (cast u h)
  unary _ (Expressions.size_of s u hs h) = token s u (ap bracket_of hs) (unary u h)
  unary _ (Expressions.size_of_type s o c vector u hs ho h hc) = token s (o ∷ (u ++ c ∷ [])) (ap bracket_of hs) (within o u c [] (ap bracket_of ho) (term vector u h) (ap bracket_of hc) nothing)

  postfix : (u : List Lexeme) → Expressions.IsPostfix u → Balanced u
  postfix _ (Expressions.suffixed u v h k) = both u v (primary u h) (suffixes v k)

  suffixes : (u : List Lexeme) → Expressions.AreSuffixes u → Balanced u
  suffixes _ Expressions.no_suffix = nothing
  suffixes _ (Expressions.indexed o c u v ho h hc k) = within o u c v (ap bracket_of ho) (assigns u h) (ap bracket_of hc) (suffixes v k)
  suffixes _ (Expressions.member d n b v hd hn k) = token d (n ∷ v) (arrow d.terminal b hd) (token n v (ap bracket_of hn) (suffixes v k))
  suffixes _ (Expressions.increments o op v ho k) = token o v (behind o.terminal op ho) (suffixes v k)

  primary : (u : List Lexeme) → Expressions.IsPrimary u → Balanced u
  primary _ (Expressions.name n h) = token n [] (ap bracket_of h) nothing
  primary _ (Expressions.call_of_none n o c h ho hc) = token n (o ∷ c ∷ []) (ap bracket_of h) (within o [] c [] (ap bracket_of ho) nothing (ap bracket_of hc) nothing)
  primary _ (Expressions.call n o c u h ho k hc) = token n (o ∷ (u ++ c ∷ [])) (ap bracket_of h) (within o u c [] (ap bracket_of ho) (assigns u k) (ap bracket_of hc) nothing)
  primary _ (Expressions.number n value ty h) = token n [] (ap bracket_of h) nothing
  primary _ (Expressions.brackets o c u ho h hc) = within o u c [] (ap bracket_of ho) (assigns u h) (ap bracket_of hc) nothing
