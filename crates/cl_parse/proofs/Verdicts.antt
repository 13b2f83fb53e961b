-- The verdict on tokens, from where their syntax offence stands, and that no tokens with an offence have another.
use Rattle.std.proofs.Common.{◌≡◌, ℕ, suc, ◌+◌, ◌-◌, ◌<◌, ◌≤◌, Bool, true, false, Option, Some, None, Result, Ok, Err, List, [], ◌∷◌, ◌++◌, length, take, drop, refl, sym, ap, ap₂, ◌∙◌, subst, append_assoc, arith, length-append}
use Rattle.std.specs.Prelude.{if◌then◌else◌, nat_lt, sum}
use Rattle.std.proofs.lemmas.Bool.Decides.{nat_tests}
use Rattle.std.proofs.lemmas.List.{append-nil, length-map, take-append-drop, take-append-le, take-take, take_all, length-take-le}
use Rattle.std.proofs.Math.Seq.{take-add}
use Rattle.clv_place.specs.declared.place.Place.{Place}
use Rattle.clv_place.specs.declared.stop.Offence.{Offence}
use Rattle.cl_ast.specs.declared.declaration.Ast.{Ast}
use Rattle.cl_ast.specs.declared.declaration.External.{External}
use Rattle.cl_lexer.specs.declared.token.Token.{Token}
use Rattle.cl_lexer.specs.declared.token.Tokens.{Tokens}
use Rattle.cl_grammar.specs.declared.lexeme.Lexeme.{Lexeme}
use Rattle.cl_grammar.specs.declared.stop.ExprStop.{ExprStop}
use Rattle.cl_grammar.specs.declared.stop.ExprStop.TheVariants as why
use Rattle.cl_grammar.specs.Lexemes.{lexeme_of, lexemes_of, end_lexeme}
use Rattle.cl_grammar.specs.Weights.{raised, counters_behind, first_over_from, first_over}
use Rattle.cl_grammar.specs.Units.{UnitTree, IsSentence, IsBegun, IsSyntaxOffence, IsLight, Judges, parsed, refused, heavy, code_at, place_at, seen_as}
use Rattle.cl_parse.specs.Verdicts.{Among, stands, none, IsRefusal, OneOffence}
use Rattle.cl_parse.proofs.UnitSteps.{tree_unit}

-- ---- fewer tokens

begun_less : (tokens : List Token) (a b : ℕ) → a ≤ b → IsBegun (take b tokens) → IsBegun (take a tokens)
begun_less tokens a b h g =
    let more : List Token = take (b - a) (drop a tokens) in
    let whole : b ≡ a + (b - a) = omega (arith, h) in
    let e : take b tokens ≡ take a tokens ++ more = ap (λ n. take n tokens) whole ∙ take-add a (b - a) tokens in
    (more ++ g.0, subst IsSentence (ap (λ z. z ++ g.0) e ∙ append_assoc (take a tokens) more g.0) g.1)

sentence_begins : (tokens : List Token) (k : ℕ) → IsSentence tokens → IsBegun (take k tokens)
sentence_begins tokens k s = (drop k tokens, subst IsSentence (sym (take-append-drop k tokens)) s)

sentence_begun : (tokens : List Token) → IsSentence tokens → IsBegun tokens
sentence_begun tokens s = ([], subst IsSentence (sym (append-nil tokens)) s)

-- ---- the syntax offence stands at one index

before : (tokens : List Token) (k j : ℕ) → IsSyntaxOffence tokens k → IsSyntaxOffence tokens j → k < j → ⊥
before tokens k j o p h = o.no_more (let w = p.within in omega (arith, h, w)) (begun_less tokens (k + 1) j (omega (arith, h)) p.begun)

same_by : (k j : ℕ) (a b : Bool) → nat_lt k j ≡ a → nat_lt j k ≡ b → (k < j → ⊥) → (j < k → ⊥) → k ≡ j
same_by k j true b e f no_less no_more = absurd (no_less (grind (arith, nat_tests, e)))
same_by k j false true e f no_less no_more = absurd (no_more (grind (arith, nat_tests, f)))
same_by k j false false e f no_less no_more = grind (arith, nat_tests, e, f)

one_index : (tokens : List Token) (k j : ℕ) → IsSyntaxOffence tokens k → IsSyntaxOffence tokens j → k ≡ j
one_index tokens k j o p = same_by k j (nat_lt k j) (nat_lt j k) refl refl (before tokens k j o p) (before tokens j k p o)

no_sentence_by : (tokens : List Token) (k : ℕ) (b : Bool) → nat_lt k (length tokens) ≡ b → IsSyntaxOffence tokens k → IsSentence tokens → ⊥
no_sentence_by tokens k true e o s = o.no_more (grind (arith, nat_tests, e)) (sentence_begins tokens (k + 1) s)
no_sentence_by tokens k false e o s =
    let past : length tokens ≤ k = grind (arith, nat_tests, e) in
    o.no_end (let w = o.within in omega (arith, past, w)) s

no_sentence : (tokens : List Token) (k : ℕ) → IsSyntaxOffence tokens k → IsSentence tokens → ⊥
no_sentence tokens k o s = no_sentence_by tokens k (nat_lt k (length tokens)) refl o s

-- ---- the token that raises the weight too far

within_by : (at n w : ℕ) (b : Bool) (r : Option ℕ) → (if b then Some at else r) ≡ Some w → (r ≡ Some w → w < at + 1 + n) → w < at + suc n
within_by at n w true r e later = let same : at ≡ w = cc in omega (arith, same)
within_by at n w false r e later = let h = later e in omega (arith, h)

within_from : (at : ℕ) (counters : List ℕ) (ls : List Lexeme) (w : ℕ) → first_over_from at counters ls ≡ Some w → w < at + length ls
within_from at counters [] w e = absurd (cc e)
within_from at counters (l ∷ ls) w e = within_by at (length ls) w (nat_lt 256 (sum (raised l.terminal counters))) (first_over_from (at + 1) (counters_behind l.terminal ls counters) ls) e (within_from (at + 1) (counters_behind l.terminal ls counters) ls w)

-- it is one of the tokens
pub over_within : (ls : List Lexeme) (w : ℕ) → first_over ls ≡ Some w → w < length ls
unfolding first_over
over_within ls w e = let h = within_from 0 (0 ∷ []) ls w e in omega (arith, h)

over_token : (tokens : List Token) (w : ℕ) → first_over (seen_as tokens) ≡ Some w → w < length tokens
over_token tokens w e = let h = over_within (seen_as tokens) w e in let l = length-map tokens lexeme_of in omega (arith, h, l)

light_none : (ls : List Lexeme) (k : ℕ) → first_over ls ≡ None → IsLight ls k
light_none ls k e w f = absurd (cc (e, f))

light_up_to : (ls : List Lexeme) (k w : ℕ) → first_over ls ≡ Some w → k ≤ w → IsLight ls k
light_up_to ls k w e h v f = let same : w ≡ v = cc (e, f) in omega (arith, h, same)

-- ---- one offence

one_heavy : (tokens : Tokens) (k w : ℕ) → IsSyntaxOffence tokens.list k → IsLight (seen_as tokens.list) k → first_over (seen_as tokens.list) ≡ Some w → IsBegun (take (w + 1) tokens.list) → ⊥
one_heavy tokens k w o l e g =
    let h : k ≤ w = l w e in
    let f = over_token tokens.list w e in
    o.no_more (omega (arith, h, f)) (begun_less tokens.list (k + 1) (w + 1) (omega (arith, h)) g)

abbrev refusal_at : Tokens → ℕ → Result Ast Offence
refusal_at tokens k = Err (record { code = code_at (seen_as tokens.list) k; place = place_at tokens k })

abbrev weight_at : Tokens → ℕ → Result Ast Offence
weight_at tokens w = Err (record { code = 202; place = place_at tokens w })

one_of : OneOffence
one_of tokens _ _ (refused k o l) (parsed ast tree light) = absurd (no_sentence tokens.list k o (tree_unit [] (seen_as tokens.list) ast.externals tree))
one_of tokens _ _ (refused k o l) (refused j p m) = ap (refusal_at tokens) (one_index tokens.list j k p o)
one_of tokens _ _ (refused k o l) (heavy w e g) = absurd (one_heavy tokens k w o l e g)
one_of tokens _ _ (heavy w e g) (parsed ast tree light) = absurd (cc (e, light))
one_of tokens _ _ (heavy w e g) (refused j p m) = absurd (one_heavy tokens j w p m e g)
one_of tokens _ _ (heavy w e g) (heavy v f h) = ap (weight_at tokens) (cc (e, f))

pub one_offence : OneOffence
one_offence = one_of

-- ---- the offence among the first tokens, which are read as if the text ended behind them

cut_offence : (tokens : List Token) (count k : ℕ) → count ≤ length tokens → k < count → IsSyntaxOffence (take count tokens) k → IsSyntaxOffence tokens k
cut_offence tokens count k h f o = record {
  within = omega (arith, h, f);
  begun = subst IsBegun (take-take k count tokens (omega (arith, f))) o.begun;
  no_more = λ g b. o.no_more (let l = length-take-le count tokens h in omega (arith, l, f)) (subst IsBegun (sym (take-take (k + 1) count tokens (omega (arith, f)))) b);
  no_end = λ e s. absurd (omega (arith, h, f, e));
}

cut_begun : (tokens : List Token) (count k : ℕ) → count ≤ length tokens → count ≤ k → IsSyntaxOffence (take count tokens) k → IsBegun (take count tokens)
cut_begun tokens count k h f o =
    let l = length-take-le count tokens h in
    subst IsBegun (take_all k (take count tokens) (omega (arith, l, f))) o.begun

pub among_none : (tokens cut : List Token) (count : ℕ) (es : List External) → cut ≡ take count tokens → UnitTree [] (seen_as cut) es → Among tokens count None
among_none tokens cut count es e tree = none (subst IsBegun e (sentence_begun cut (tree_unit [] (seen_as cut) es tree)))

pub among_stands : (tokens cut : List Token) (count k : ℕ) → cut ≡ take count tokens → count ≤ length tokens → k < count → IsRefusal cut (why.Out k) → Among tokens count (Some k)
among_stands tokens cut count k e h f r = stands k f (cut_offence tokens count k h f (subst (λ z. IsSyntaxOffence z k) e r.out))

pub among_end : (tokens cut : List Token) (count k : ℕ) → cut ≡ take count tokens → count ≤ length tokens → count ≤ k → IsRefusal cut (why.Out k) → Among tokens count None
among_end tokens cut count k e h f r = none (cut_begun tokens count k h f (subst (λ z. IsSyntaxOffence z k) e r.out))

-- ---- the verdict

judged_as : (tokens : Tokens) (o : Offence) (code : ℕ) (place : Place) → o.code ≡ code → o.place ≡ place → Judges tokens (Err (record { code = code; place = place })) → Judges tokens (Err o)
judged_as tokens o code place e f j = subst (Judges tokens) (sym (ap₂ (λ (c : ℕ) (p : Place). let answer : Result Ast Offence = Err (record { code = c; place = p }) in answer) e f)) j

pub is_parsed : (tokens : Tokens) (seen : List Lexeme) (ast : Ast) → seen ≡ seen_as tokens.list → first_over seen ≡ None → UnitTree [] (seen_as tokens.list) ast.externals → Judges tokens (Ok ast)
is_parsed tokens seen ast is light tree = parsed ast tree (ap first_over (sym is) ∙ light)

pub refused_light : (tokens : Tokens) (seen : List Lexeme) (k : ℕ) (o : Offence) → seen ≡ seen_as tokens.list → first_over seen ≡ None → IsRefusal tokens.list (why.Out k) → o.code ≡ code_at seen k → o.place ≡ place_at tokens k → Judges tokens (Err o)
refused_light tokens seen k o is light r code place =
    judged_as tokens o (code_at (seen_as tokens.list) k) (place_at tokens k) (code ∙ ap (λ z. code_at z k) is) place (refused k r.out (light_none (seen_as tokens.list) k (ap first_over (sym is) ∙ light)))

stands_by : (tokens : Tokens) (over k : ℕ) (found : Option ℕ) → found ≡ Some k → Among tokens.list (over + 1) found → IsSyntaxOffence tokens.list k × (k ≤ over)
stands_by tokens over k _ e (stands j f o) = let same : j ≡ k = cc in (subst (IsSyntaxOffence tokens.list) same o, omega (arith, f, same))
stands_by tokens over k _ e (none g) = absurd (cc e)

none_by : (tokens : Tokens) (count : ℕ) (found : Option ℕ) → found ≡ None → Among tokens.list count found → IsBegun (take count tokens.list)
none_by tokens count _ e (stands j f o) = absurd (cc e)
none_by tokens count _ e (none g) = g

pub refused_heavy : (tokens : Tokens) (seen : List Lexeme) (over k : ℕ) (o : Offence) → seen ≡ seen_as tokens.list → first_over seen ≡ Some over → Among tokens.list (over + 1) (Some k) → o.code ≡ code_at seen k → o.place ≡ place_at tokens k → Judges tokens (Err o)
refused_heavy tokens seen over k o is weighs among code place =
    let s = stands_by tokens over k (Some k) refl among in
    judged_as tokens o (code_at (seen_as tokens.list) k) (place_at tokens k) (code ∙ ap (λ z. code_at z k) is) place (refused k s.0 (light_up_to (seen_as tokens.list) k over (ap first_over (sym is) ∙ weighs) s.1))

pub is_heavy : (tokens : Tokens) (seen : List Lexeme) (over : ℕ) (place : Place) → seen ≡ seen_as tokens.list → first_over seen ≡ Some over → Among tokens.list (over + 1) None → place ≡ place_at tokens over → Judges tokens (Err (record { code = 202; place = place }))
is_heavy tokens seen over place is weighs among e =
    judged_as tokens (record { code = 202; place = place }) 202 (place_at tokens over) refl e (heavy over (ap first_over (sym is) ∙ weighs) (none_by tokens (over + 1) None refl among))

-- ---- the tokens as the grammar sees them, without the end

pub seen_room : (tokens list : List Token) (end : Place) (ts all : List Lexeme) (n : ℕ) → n ≡ length tokens → ts ≡ all → all ≡ lexemes_of list end → list ≡ tokens → n ≤ length ts
seen_room tokens list end ts all n count e f g =
    let long : length ts ≡ length (seen_as tokens) + 1 = ap length (e ∙ f ∙ ap (λ z. lexemes_of z end) g) ∙ length-append (seen_as tokens) (end_lexeme end ∷ []) in
    let seen : length (seen_as tokens) ≡ length tokens = length-map tokens lexeme_of in
    omega (arith, count, long, seen)

pub seen_front : (tokens list : List Token) (end : Place) (seen ts all : List Lexeme) (n : ℕ) → seen ≡ take n ts → n ≡ length tokens → ts ≡ all → all ≡ lexemes_of list end → list ≡ tokens → seen ≡ seen_as tokens
seen_front tokens list end seen ts all n is count e f g =
    let long : length (seen_as tokens) ≡ length tokens = length-map tokens lexeme_of in
    is ∙ ap (take n) (e ∙ f ∙ ap (λ z. lexemes_of z end) g) ∙ take-append-le n (seen_as tokens) (end_lexeme end ∷ []) (omega (arith, count, long)) ∙ take_all n (seen_as tokens) (omega (arith, count, long))

pub refusal_of : (tokens list : List Token) (stop : ExprStop) (k : ℕ) → list ≡ tokens → stop ≡ why.Out k → IsRefusal list stop → IsRefusal tokens (why.Out k)
refusal_of tokens list stop k e is r = subst (IsRefusal tokens) is (subst (λ z. IsRefusal z stop) e r)

-- ---- indices

within_among : (tokens : List Token) (count k : ℕ) (found : Option ℕ) → found ≡ Some k → Among tokens count found → k ≤ length tokens
within_among tokens count k _ e (stands j f o) = let same : j ≡ k = cc in let w = o.within in omega (arith, w, same)
within_among tokens count k _ e (none g) = absurd (cc e)

pub among_within : (tokens : List Token) (seen : List Lexeme) (count k : ℕ) → seen ≡ seen_as tokens → Among tokens count (Some k) → k ≤ length seen
among_within tokens seen count k is a = let w = within_among tokens count k (Some k) refl a in let l : length seen ≡ length tokens = ap length is ∙ length-map tokens lexeme_of in omega (arith, w, l)

pub refusal_within : (tokens : List Token) (seen : List Lexeme) (k : ℕ) → seen ≡ seen_as tokens → IsRefusal tokens (why.Out k) → k ≤ length seen
refusal_within tokens seen k is r = let w = r.out.within in let l : length seen ≡ length tokens = ap length is ∙ length-map tokens lexeme_of in omega (arith, w, l)

pub over_room : (tokens : List Token) (seen : List Lexeme) (over : ℕ) → seen ≡ seen_as tokens → first_over seen ≡ Some over → over + 1 ≤ length tokens
over_room tokens seen over is e = let h = over_token tokens over (ap first_over (sym is) ∙ e) in omega (arith, h)
