-- A reader of the words before a function and of its parameters.
use Rattle.std.specs.Global.{Vec}
use Rattle.std.proofs.Common.{◌≡◌, ℕ, suc, zero, ◌+◌, Bool, true, false, ◌&&◌, ◌||◌, if◌then◌else◌, List, [], ◌∷◌, ◌++◌, map, Option, Some, None, ◌⊎◌, inl, inr, refl, sym, ap, ◌∙◌, subst, append_assoc, arith, codes, bytes_eq}
use Rattle.std.proofs.lemmas.Slice.Eq.{bytes_eq-Decides}
use Rattle.cl_ast.specs.declared.expression.Qual.{Qual}
use Rattle.cl_ast.specs.declared.expression.Expr.{Expr}
use Rattle.cl_ast.specs.declared.expression.Spec.{Spec}
use Rattle.cl_ast.specs.declared.expression.Base.{Base}
use Rattle.cl_ast.specs.declared.declaration.FWord.{FWord}
use Rattle.cl_ast.specs.declared.declaration.Param.{Param}
use Rattle.cl_grammar.specs.declared.lexeme.Lexeme.{Lexeme}
use Rattle.cl_grammar.specs.declared.terminal.Terminal.{Terminal}
use Rattle.cl_grammar.specs.declared.terminal.Terminal.TheVariants as t
use Rattle.cl_grammar.specs.Terminals.{qualifier_of, width_of, takes_int, sign_of}
use Rattle.cl_grammar.specs.Lexemes.{is_name}
use Rattle.cl_grammar.specs.Expressions.{IsA, is_open, IsInteger, IsWidth}
use Rattle.cl_grammar.specs.Expressions as is
use Rattle.cl_grammar.specs.ExpressionTrees.{StarOf, Qualify, SpecTree, BaseTree, IntegerOf, WidthOf}
use Rattle.cl_grammar.specs.ExpressionTrees as of
use Rattle.cl_grammar.specs.Statements.{hints, IsHint, is_vector_hint, is_required_size, is_size_name}
use Rattle.cl_grammar.specs.Statements as said
use Rattle.cl_grammar.specs.StatementTrees.{BeginsAt, begins, SizeOf, WordTree, WordTrees, ParamTree, unnamed, named, ParamTrees, last, IsVoidAlone, ParamListTree}
use Rattle.cl_grammar.specs.StatementTrees as trees
use Rattle.cl_plain.specs.Plain.{Plain, over, leaf, plain_expr, plain_spec, plain_word, plain_param}
use Rattle.cl_plain.specs.Plain as p
use Rattle.cl_plain.proofs.Reading.{Reads, first_is, is_close, is_spec_end, is_star_end, begins_type}
use Rattle.cl_plain.proofs.ReadSteps.{and_then, skip, first_of, then_is, if_true, if_false, enough, reads_from, reads_with, first_apart}
use Rattle.cl_plain.proofs.ReadExpressions.{read_spec, spec_reads, spec_begins, read_star, star_reads, read_args, args_reads}
use Rattle.cl_plain.proofs.ReadMarks.{is_close_paren, is_comma, first_excludes, first_implies}

abbrev pub is_void : Terminal → Bool
is_void t.Void = true
is_void _ = false

-- ---- words before a function

abbrev pub is_word : Terminal → Bool
is_word t.Kernel = true
is_word t.Inline = true
is_word t.Static = true
is_word t.Attribute = true
is_word _ = false

-- a hint's type ends where its bracket closes
abbrev pub to_close : List Lexeme → List Lexeme
to_close [] = []
to_close (l ∷ ls) = if is_close_paren l.terminal then l ∷ ls else to_close ls

abbrev pub Arguments : Type 0
Arguments = List Lexeme → Option (List Plain × List Lexeme)

abbrev pub size_says : Lexeme → List Plain → Plain
size_says n args = if is_required_size n.text then over (p.required n.place) args else leaf p.hint

abbrev pub size_at : Arguments → Lexeme → List Lexeme → Option (Plain × List Lexeme)
size_at args n ls = if first_is is_open ls then and_then (args (skip ls)) (λ xs rest. Some (size_says n xs, skip (skip (skip rest)))) else Some (size_says n [], skip (skip ls))

abbrev pub attribute_at : Arguments → List Lexeme → Option (Plain × List Lexeme)
attribute_at args [] = None
attribute_at args (n ∷ ls) = if is_vector_hint n.text then Some (leaf p.hint, skip (skip (skip (to_close (skip ls))))) else size_at args n ls

abbrev pub word_by : Arguments → Terminal → List Lexeme → Option (Plain × List Lexeme)
word_by args t.Kernel ls = Some (leaf p.kernel, skip ls)
word_by args t.Inline ls = Some (leaf p.inline, skip ls)
word_by args t.Static ls = Some (leaf p.static, skip ls)
word_by args _ ls = attribute_at args (skip (skip (skip ls)))

abbrev pub read_word : ℕ → List Lexeme → Option (Plain × List Lexeme)
read_word n ls = word_by (read_args n) (first_of ls) ls

abbrev pub read_words : ℕ → List Lexeme → Option (List Plain × List Lexeme)
read_words zero ls = None
read_words (suc n) ls = if first_is is_word ls then and_then (read_word n ls) (λ w rest. and_then (read_words n rest) (λ ws more. Some (w ∷ ws, more))) else Some ([], ls)

hint_open : (l : Terminal) → hints l ≡ true → is_close_paren l ≡ false
hint_open t.CloseParen e = absurd (cc)
hint_open _ e = refl

width_open : (l : Terminal) (bits : ℕ) → width_of l ≡ Some bits → is_close_paren l ≡ false
width_open t.CloseParen bits e = absurd (cc)
width_open _ bits e = refl

takes_int_open : (l : Terminal) → takes_int l ≡ true → is_close_paren l ≡ false
takes_int_open t.CloseParen e = absurd (cc)
takes_int_open _ e = refl

sign_open : (l : Terminal) (signed : Bool) → sign_of l ≡ Some signed → is_close_paren l ≡ false
sign_open t.CloseParen signed e = absurd (cc)
sign_open _ signed e = refl

width_closes : (u : List Lexeme) → IsWidth u → (c : Lexeme) (r : List Lexeme) → IsA t.CloseParen c → to_close (u ++ c ∷ r) ≡ c ∷ r
width_closes _ (is.word w bits h) c r hc = if_false _ (width_open w.terminal bits h) ∙ if_true _ (ap is_close_paren hc)
width_closes _ (is.with_int w i h hi) c r hc = if_false _ (takes_int_open w.terminal h) ∙ (if_false _ (ap is_close_paren hi) ∙ if_true _ (ap is_close_paren hc))

hint_closes : (u : List Lexeme) → IsHint u → (c : Lexeme) (r : List Lexeme) → IsA t.CloseParen c → to_close (u ++ c ∷ r) ≡ c ∷ r
hint_closes _ (said.word w h) c r hc = if_false _ (hint_open w.terminal h) ∙ if_true _ (ap is_close_paren hc)
hint_closes _ (said.integer _ (is.plain u h)) c r hc = width_closes u h c r hc
hint_closes _ (said.integer _ (is.with_sign s signed u h k)) c r hc = if_false _ (sign_open s.terminal signed h) ∙ width_closes u k c r hc
hint_closes _ (said.integer _ (is.sign s signed h)) c r hc = if_false _ (sign_open s.terminal signed h) ∙ if_true _ (ap is_close_paren hc)

required_no_hint : (text : List ℕ) → is_required_size text ≡ true → is_vector_hint text ≡ false
required_no_hint text e = ap is_vector_hint ((bytes_eq-Decides text (codes "reqd_work_group_size")).0 e)

size_no_hint : (text : List ℕ) → is_size_name text ≡ true → is_required_size text ≡ false → is_vector_hint text ≡ false
size_no_hint text e k =
    let h : bytes_eq text (codes "work_group_size_hint") ≡ true = subst (λ z. (z || bytes_eq text (codes "work_group_size_hint")) ≡ true) k e in
    ap is_vector_hint ((bytes_eq-Decides text (codes "work_group_size_hint")).0 h)

size_name : (n : Lexeme) (args : List Expr) (v : Vec Expr) (f : FWord) → SizeOf n v f → v.items ≡ args → (is_vector_hint n.text ≡ false) × (size_says n (map plain_expr args) ≡ plain_word f)
size_name _ args _ _ (trees.required n v h) e = (required_no_hint n.text h, if_true _ h ∙ ap (λ z. over (p.required n.place) (map plain_expr z)) (sym e))
size_name _ args _ _ (trees.hint n v h k) e = (size_no_hint n.text h k, if_false _ k)

word_reads : (u : List Lexeme) (f : FWord) → WordTree u f → (r : List Lexeme) → Reads read_word u r (plain_word f)
word_reads _ _ (trees.kernel w h) r = reads_with read_word (w ∷ []) r _ 0 (λ m le. ap (λ z. word_by (read_args m) z (w ∷ r)) h)
word_reads _ _ (trees.inline w h) r = reads_with read_word (w ∷ []) r _ 0 (λ m le. ap (λ z. word_by (read_args m) z (w ∷ r)) h)
word_reads _ _ (trees.static w h) r = reads_with read_word (w ∷ []) r _ 0 (λ m le. ap (λ z. word_by (read_args m) z (w ∷ r)) h)
word_reads _ _ (trees.vector_hint a o q n b c d e u ha ho hq hn hb hu hc hd he) r =
    reads_with read_word (a ∷ o ∷ q ∷ n ∷ b ∷ (u ++ c ∷ d ∷ e ∷ [])) r _ 0 (λ m le.
    ap (λ z. word_by (read_args m) z (a ∷ o ∷ q ∷ n ∷ b ∷ ((u ++ c ∷ d ∷ e ∷ []) ++ r))) ha
    ∙ (if_true _ hn ∙ ap (λ z. Some (leaf p.hint, skip (skip (skip z)))) (ap to_close (append_assoc u (c ∷ d ∷ e ∷ []) r) ∙ hint_closes u hu c (d ∷ e ∷ r) hc)))
word_reads _ _ (trees.size_alone a o q n d e f args ha ho hq hn hf bare hd he) r =
    let k = size_name n [] args f hf bare in
    reads_with read_word (a ∷ o ∷ q ∷ n ∷ d ∷ e ∷ []) r _ 0 (λ m le.
    ap (λ z. word_by (read_args m) z (a ∷ o ∷ q ∷ n ∷ d ∷ e ∷ r)) ha ∙ (if_false _ k.0 ∙ (if_false _ (ap is_open hd) ∙ ap (λ z. Some (z, r)) k.1)))
word_reads _ _ (trees.size a o q n b c d e u f args ha ho hq hn hf hb hu hc hd he) r =
    let k = size_name n args.items args f hf refl in
    let x = args_reads u args.items hu (c ∷ d ∷ e ∷ r) (ap is_close hc) in
    reads_with read_word (a ∷ o ∷ q ∷ n ∷ b ∷ (u ++ c ∷ d ∷ e ∷ [])) r _ x.steps (λ m le.
    ap (λ z. word_by (read_args m) z (a ∷ o ∷ q ∷ n ∷ b ∷ ((u ++ c ∷ d ∷ e ∷ []) ++ r))) ha
    ∙ (if_false _ k.0 ∙ (if_true _ (ap is_open hb) ∙ (ap (λ z. and_then (read_args m z) (λ xs rest. Some (size_says n xs, skip (skip (skip rest))))) (append_assoc u (c ∷ d ∷ e ∷ []) r) ∙ (then_is _ (enough x m le) ∙ ap (λ z. Some (z, r)) k.1)))))

word_first : (u : List Lexeme) (f : FWord) → WordTree u f → (r : List Lexeme) → first_is is_word (u ++ r) ≡ true
word_first _ _ (trees.kernel w h) r = ap is_word h
word_first _ _ (trees.inline w h) r = ap is_word h
word_first _ _ (trees.static w h) r = ap is_word h
word_first _ _ (trees.vector_hint a o q n b c d e u ha ho hq hn hb hu hc hd he) r = ap is_word ha
word_first _ _ (trees.size_alone a o q n d e f args ha ho hq hn hf bare hd he) r = ap is_word ha
word_first _ _ (trees.size a o q n b c d e u f args ha ho hq hn hf hb hu hc hd he) r = ap is_word ha

pub words_read : (u : List Lexeme) (fs : List FWord) → WordTrees u fs → (r : List Lexeme) → first_is is_word r ≡ false → Reads read_words u r (map plain_word fs)
words_read _ _ trees.none r k = reads_from read_words [] r _ 0 (λ m le. if_false _ k)
words_read _ _ (trees.more u v f fs h hs) r k =
    let x = word_reads u f h (v ++ r) in
    let y = words_read v fs hs r k in
    reads_from read_words (u ++ v) r _ (x.steps + y.steps) (λ m le.
    ap (read_words (suc m)) (append_assoc u v r) ∙ (if_true _ (word_first u f h (v ++ r)) ∙ (then_is _ (enough x m (omega arith)) ∙ then_is _ (enough y m (omega arith)))))

-- what stands first in words and what is behind them
pub words_first : (q : Terminal → Bool) (b : Bool) → ((l : Terminal) → is_word l ≡ true → q l ≡ b) → (u : List Lexeme) (fs : List FWord) → WordTrees u fs → (r : List Lexeme) → first_is q r ≡ b → first_is q (u ++ r) ≡ b
words_first q b f _ _ trees.none r k = k
words_first q b f _ _ (trees.more u v w fs h hs) r k = first_apart q u v r (so (u ++ (v ++ r)) (word_first u w h (v ++ r)))
  where
    so : (ls : List Lexeme) → first_is is_word ls ≡ true → first_is q ls ≡ b
    so [] e = absurd (cc)
    so (l ∷ ls) e = f l.terminal e

-- ---- parameters

-- behind a parameter
abbrev pub is_param_end : Terminal → Bool
is_param_end t.Comma = true
is_param_end t.CloseParen = true
is_param_end _ = false

abbrev pub unnamed_at : List Lexeme → Plain → Option (List Qual) → List Lexeme → Option (Plain × List Lexeme)
unnamed_at [] s star ls = None
unnamed_at (l ∷ u) s star ls = Some (over (p.param star None l.place) (s ∷ []), ls)

abbrev pub named_at : Plain → Option (List Qual) → List Lexeme → Option (Plain × List Lexeme)
named_at s star [] = None
named_at s star (n ∷ ls) = Some (over (p.param star (Some n.text) n.place) (s ∷ []), ls)

abbrev pub read_param : ℕ → List Lexeme → Option (Plain × List Lexeme)
read_param n ls = and_then (read_spec n ls) (λ s rest. and_then (read_star n rest) (λ star more. if first_is is_name more then named_at s star more else unnamed_at ls s star more))

abbrev pub read_params : ℕ → List Lexeme → Option (List Plain × List Lexeme)
read_params zero ls = None
read_params (suc n) ls = and_then (read_param n ls) (λ x rest. if first_is is_comma rest then and_then (read_params n (skip rest)) (λ xs more. Some (x ∷ xs, more)) else Some (x ∷ [], rest))

abbrev pub is_void_alone : List Lexeme → Bool
is_void_alone [] = false
is_void_alone (l ∷ ls) = is_void l.terminal && first_is is_close_paren ls

-- up to the `)`
abbrev pub read_param_list : ℕ → List Lexeme → Option (List Plain × List Lexeme)
read_param_list n ls = if first_is is_close_paren ls then Some ([], ls) else (if is_void_alone ls then Some ([], skip ls) else read_params n ls)

end_stars : (l : Terminal) → is_param_end l ≡ true → is_star_end l ≡ true
end_stars t.Comma e = refl
end_stars t.CloseParen e = refl
end_stars _ e = absurd (cc)

end_no_name : (l : Terminal) → is_param_end l ≡ true → is_name l ≡ false
end_no_name t.Name e = absurd (cc)
end_no_name _ e = refl

star_ends : (l : Terminal) → is_star_end l ≡ true → is_spec_end l ≡ true
star_ends t.Name e = refl
star_ends t.Comma e = refl
star_ends t.CloseParen e = refl
star_ends _ e = absurd (cc)

-- behind a spec, a star or what is behind one
star_first : (u : List Lexeme) (star : Option (List Qual)) → StarOf u star → (r : List Lexeme) → first_is is_star_end r ≡ true → first_is is_spec_end (u ++ r) ≡ true
star_first _ _ of.none r k = first_implies is_star_end is_spec_end star_ends r k
star_first _ _ (of.some s u qs hs hu) r k = ap is_spec_end hs

pub param_reads : (u : List Lexeme) (x : Param) → ParamTree u x → (r : List Lexeme) → first_is is_param_end r ≡ true → Reads read_param u r (plain_param x)
param_reads _ _ (unnamed _ v _ spec star hs hv (begins l u)) r k =
    let e = first_implies is_param_end is_star_end end_stars r k in
    let x = spec_reads (l ∷ u) spec hs (v ++ r) (star_first v star hv r e) in
    let y = star_reads v star hv r e in
    reads_with read_param ((l ∷ u) ++ v) r _ (x.steps + y.steps) (λ m le.
    ap (read_param m) (append_assoc (l ∷ u) v r) ∙ (then_is _ (enough x m (omega arith)) ∙ (then_is _ (enough y m (omega arith)) ∙ if_false _ (first_excludes is_param_end is_name end_no_name r k))))
param_reads _ _ (named n u v spec star hs hv hn) r k =
    let x = spec_reads u spec hs (v ++ n ∷ r) (star_first v star hv (n ∷ r) (ap is_star_end hn)) in
    let y = star_reads v star hv (n ∷ r) (ap is_star_end hn) in
    reads_with read_param (u ++ (v ++ n ∷ [])) r _ (x.steps + y.steps) (λ m le.
    ap (read_param m) (append_assoc u (v ++ n ∷ []) r ∙ ap (λ z. u ++ z) (append_assoc v (n ∷ []) r))
    ∙ (then_is _ (enough x m (omega arith)) ∙ (then_is _ (enough y m (omega arith)) ∙ if_true _ (ap is_name hn))))

pub params_read : (u : List Lexeme) (xs : List Param) → ParamTrees u xs → (c : Lexeme) (r : List Lexeme) → IsA t.CloseParen c → Reads read_params u (c ∷ r) (map plain_param xs)
params_read _ _ (trees.last u x h) c r hc =
    let a = param_reads u x h (c ∷ r) (ap is_param_end hc) in
    reads_from read_params u (c ∷ r) _ a.steps (λ m le. then_is _ (enough a m le) ∙ if_false _ (ap is_comma hc))
params_read _ _ (trees.more k u v x xs h hk hs) c r hc =
    let a = param_reads u x h (k ∷ (v ++ c ∷ r)) (ap is_param_end hk) in
    let b = params_read v xs hs c r hc in
    reads_from read_params (u ++ k ∷ v) (c ∷ r) _ (a.steps + b.steps) (λ m le.
    ap (read_params (suc m)) (append_assoc u (k ∷ v) (c ∷ r)) ∙ (then_is _ (enough a m (omega arith)) ∙ (if_true _ (ap is_comma hk) ∙ then_is _ (enough b m (omega arith)))))

-- ---- `void` alone

pub and_false : (b : Bool) → (b && false) ≡ false
and_false true = refl
and_false false = refl

void_or : (l : Terminal) → (l ≡ t.Void) ⊎ (is_void l ≡ false)
void_or t.Void = inl refl
void_or _ = inr refl

void_then : (u : List Lexeme) → IsVoidAlone u → (r : List Lexeme) → first_is is_close_paren r ≡ false → is_void_alone (u ++ r) ≡ false
void_then [] h r e = absurd h
void_then (l ∷ []) h r e = ap (λ z. is_void l.terminal && z) e ∙ and_false (is_void l.terminal)
void_then (l ∷ m ∷ ls) h r e = absurd h

void_more : (u : List Lexeme) → IsVoidAlone u → IsVoidAlone (u ++ [])
void_more [] h = h
void_more (l ∷ []) h = h
void_more (l ∷ m ∷ ls) h = absurd h

no_void : (l : Lexeme) (ls : List Lexeme) → is_void l.terminal ≡ false → is_void_alone (l ∷ ls) ≡ false
no_void l ls e = ap (λ z. z && first_is is_close_paren ls) e

no_close : (l m : Lexeme) (ls : List Lexeme) → is_close_paren m.terminal ≡ false → is_void_alone (l ∷ m ∷ ls) ≡ false
no_close l m ls e = ap (λ z. is_void l.terminal && z) e ∙ and_false (is_void l.terminal)

qualifier_no_void : (l : Terminal) (q : Qual) → qualifier_of l ≡ Some q → is_void l ≡ false
qualifier_no_void t.Void q e = absurd (cc)
qualifier_no_void _ q e = refl

qualifier_no_close : (l : Terminal) (q : Qual) → qualifier_of l ≡ Some q → is_close_paren l ≡ false
qualifier_no_close t.CloseParen q e = absurd (cc)
qualifier_no_close _ q e = refl

width_no_void : (l : Terminal) (bits : ℕ) → width_of l ≡ Some bits → is_void l ≡ false
width_no_void t.Void bits e = absurd (cc)
width_no_void _ bits e = refl

sign_no_void : (l : Terminal) (signed : Bool) → sign_of l ≡ Some signed → is_void l ≡ false
sign_no_void t.Void signed e = absurd (cc)
sign_no_void _ signed e = refl

abbrev Apart : List Lexeme → Type 0
Apart u = IsVoidAlone u ⊎ ((r : List Lexeme) → is_void_alone (u ++ r) ≡ false)

integer_apart : (u : List Lexeme) (b : Base) → IntegerOf u b → (r : List Lexeme) → is_void_alone (u ++ r) ≡ false
integer_apart _ _ (of.plain _ bits (of.word w _ h)) r = no_void w r (width_no_void w.terminal bits h)
integer_apart _ _ (of.plain _ bits (of.with_int w i _ h hi k)) r = no_void w (i ∷ r) (width_no_void w.terminal bits k)
integer_apart _ _ (of.with_sign s signed u bits h k) r = no_void s (u ++ r) (sign_no_void s.terminal signed h)
integer_apart _ _ (of.sign s signed h) r = no_void s r (sign_no_void s.terminal signed h)

-- a base with qualifiers behind it
base_apart : (v w : List Lexeme) (b : Base) (qs : List Qual) → BaseTree v b → Qualify qualifier_of w qs → Apart (v ++ w)
base_apart _ [] _ qs (of.type_word l b h) k = elim (void_or l.terminal) [ inl e ↦ inl e | inr e ↦ inr (λ r. no_void l r e) ]
base_apart _ (q ∷ w) _ [] (of.type_word l b h) k = absurd k
base_apart _ (q ∷ w) _ (c ∷ qs) (of.type_word l b h) k = inr (λ r. no_close l q (w ++ r) (qualifier_no_close q.terminal c k.0))
base_apart _ w _ qs (of.integer v b h) k = inr (λ r. subst (λ z. is_void_alone z ≡ false) (sym (append_assoc v w r)) (integer_apart v b h (w ++ r)))
base_apart _ w _ qs (of.struct_name s n b hs hn is) k = inr (λ r. no_void s (n ∷ (w ++ r)) (ap is_void hs))
base_apart _ w _ qs (of.named_struct s n o c u fields b hs hn ho hu hc is) k = inr (λ r. no_void s (n ∷ o ∷ (((u ++ c ∷ []) ++ w) ++ r)) (ap is_void hs))
base_apart _ w _ qs (of.struct s o c u fields b hs ho hu hc is) k = inr (λ r. no_void s (o ∷ (((u ++ c ∷ []) ++ w) ++ r)) (ap is_void hs))

spec_apart : (u : List Lexeme) (s : Spec) → SpecTree u s → Apart u
spec_apart _ _ (of.spec [] v w before behind b s hq hb hw is) = base_apart v w b behind hb hw
spec_apart _ _ (of.spec (q ∷ u) v w [] behind b s hq hb hw is) = absurd hq
spec_apart _ _ (of.spec (q ∷ u) v w (c ∷ before) behind b s hq hb hw is) = inr (λ r. no_void q ((u ++ (v ++ w)) ++ r) (qualifier_no_void q.terminal c hq.0))

apart_from : (u v r : List Lexeme) → is_void_alone (u ++ (v ++ r)) ≡ false → is_void_alone ((u ++ v) ++ r) ≡ false
apart_from u v r e = subst (λ z. is_void_alone z ≡ false) (sym (append_assoc u v r)) e

param_apart : (u : List Lexeme) (x : Param) → ParamTree u x → (r : List Lexeme) → (IsVoidAlone u → first_is is_close_paren r ≡ false) → is_void_alone (u ++ r) ≡ false
param_apart _ _ (unnamed u _ place spec _ hs of.none b) r k =
    apart_from u [] r (elim (spec_apart u spec hs) [ inl e ↦ void_then u e r (k (void_more u e)) | inr f ↦ f r ])
param_apart _ _ (unnamed u _ place spec _ hs (of.some s v qs hv hu) b) r k =
    apart_from u (s ∷ v) r (elim (spec_apart u spec hs) [ inl e ↦ void_then u e (s ∷ (v ++ r)) (ap is_close_paren hv) | inr f ↦ f (s ∷ (v ++ r)) ])
param_apart _ _ (named n u _ spec _ hs of.none hn) r k =
    apart_from u (n ∷ []) r (elim (spec_apart u spec hs) [ inl e ↦ void_then u e (n ∷ r) (ap is_close_paren hn) | inr f ↦ f (n ∷ r) ])
param_apart _ _ (named n u _ spec _ hs (of.some s v qs hv hu) hn) r k =
    apart_from u (s ∷ (v ++ n ∷ [])) r (elim (spec_apart u spec hs) [ inl e ↦ void_then u e (s ∷ ((v ++ n ∷ []) ++ r)) (ap is_close_paren hv) | inr f ↦ f (s ∷ ((v ++ n ∷ []) ++ r)) ])

params_apart : (u : List Lexeme) (xs : List Param) → ParamTrees u xs → (IsVoidAlone u → ⊥) → (r : List Lexeme) → is_void_alone (u ++ r) ≡ false
params_apart _ _ (trees.last u x h) k r = param_apart u x h r (λ e. absurd (k e))
params_apart _ _ (trees.more c u v x xs h hc hs) k r = apart_from u (c ∷ v) r (param_apart u x h (c ∷ (v ++ r)) (λ e. ap is_close_paren hc))

type_no_close : (l : Terminal) → begins_type l ≡ true → is_close_paren l ≡ false
type_no_close t.CloseParen e = absurd (cc)
type_no_close _ e = refl

param_first : (u : List Lexeme) (x : Param) → ParamTree u x → (r : List Lexeme) → first_is begins_type (u ++ r) ≡ true
param_first _ _ (unnamed u v place spec star hs hv b) r = first_apart begins_type u v r (spec_begins u spec hs (v ++ r))
param_first _ _ (named n u v spec star hs hv hn) r = first_apart begins_type u (v ++ n ∷ []) r (spec_begins u spec hs ((v ++ n ∷ []) ++ r))

params_first : (u : List Lexeme) (xs : List Param) → ParamTrees u xs → (r : List Lexeme) → first_is begins_type (u ++ r) ≡ true
params_first _ _ (trees.last u x h) r = param_first u x h r
params_first _ _ (trees.more c u v x xs h hc hs) r = first_apart begins_type u (c ∷ v) r (param_first u x h (c ∷ (v ++ r)))

pub param_list_reads : (u : List Lexeme) (xs : List Param) → ParamListTree u xs → (c : Lexeme) (r : List Lexeme) → IsA t.CloseParen c → Reads read_param_list u (c ∷ r) (map plain_param xs)
param_list_reads _ _ trees.none c r hc = reads_with read_param_list [] (c ∷ r) _ 0 (λ m le. if_true _ (ap is_close_paren hc))
param_list_reads _ _ (trees.void v hv) c r hc =
    reads_with read_param_list (v ∷ []) (c ∷ r) _ 0 (λ m le. if_false _ (ap is_close_paren hv) ∙ if_true _ (ap (λ z. is_void z && is_close_paren c.terminal) hv ∙ ap is_close_paren hc))
param_list_reads _ _ (trees.params u xs h k) c r hc =
    let a = params_read u xs h c r hc in
    reads_with read_param_list u (c ∷ r) _ a.steps (λ m le.
    if_false _ (first_excludes begins_type is_close_paren type_no_close (u ++ c ∷ r) (params_first u xs h (c ∷ r))) ∙ (if_false _ (params_apart u xs h k (c ∷ r)) ∙ enough a m le))
