-- A text has one verdict.
use Rattle.std.proofs.Common.{◌≡◌, ℕ, suc, ◌-◌, ◌<◌, Bool, true, false, List, drop, length, Result, Ok, Err, inl, inr, refl, sym, ap, ap₂, ◌∙◌, subst, subst₂, arith}
use Rattle.std.proofs.lemmas.Bool.{cases_lt}
use Rattle.clv_place.specs.Places.{IsAt, IsLineStart}
use Rattle.clv_place.specs.declared.place.Place.{Place}
use Rattle.clv_place.specs.declared.stop.Offence.{Offence}
use Rattle.cl_lexer.specs.declared.token.Token.{Token}
use Rattle.cl_lexer.specs.declared.token.Tokens.{Tokens}
use Rattle.cl_lexer.specs.declared.token.TokenKind.{TokenKind}
use Rattle.cl_lexer.specs.declared.front.Stage.{Stage}
use Rattle.cl_lexer.specs.declared.front.Stage.TheVariants.{Beginning}
use Rattle.cl_lexer.specs.Fronts.{stage_after, is_beginning}
use Rattle.cl_lexer.specs.Joined.{Glyph, glyphs_of, offset_of}
use Rattle.cl_lexer.specs.Tokens.{with_front, Reads, ended, offends, line_ended, parted, taken, Lexes, too_large, refused, read, OneVerdict}

no_later : (text : List ℕ) (at s t : ℕ) → IsLineStart text at s → IsLineStart text at t → s < t → ⊥
no_later text at s t a b less =
    let within = b.within in
    let last : suc (t - 1) ≡ t = omega (arith, less) in
    a.inside (t - 1) (omega (arith, less)) (omega (arith, less, within)) (b.after (t - 1) last)

one_start : (text : List ℕ) (at s t : ℕ) → IsLineStart text at s → IsLineStart text at t → s ≡ t
one_start text at s t a b =
    elim (cases_lt s t) [
      | inl less ↦ absurd (no_later text at s t a b less)
      | inr at_least ↦
          elim (cases_lt t s) [ inl less ↦ absurd (no_later text at t s b a less) | inr at_most ↦ omega (arith, at_least, at_most) ]
    ]

one_column : (text : List ℕ) (at line col line2 col2 : ℕ) → IsAt text at line col → IsAt text at line2 col2 → col ≡ col2
one_column text at line col line2 col2 a b =
    let same = one_start text at a.column.0 b.column.0 a.column.1 b.column.1 in
    let here = a.column.2 in
    let there = b.column.2 in
    omega (arith, same, here, there)

one_place : (text : List ℕ) (at : ℕ) (p q : Place) → IsAt text at p.line p.col → IsAt text at q.line q.col → p ≡ q
one_place text at p q a b = ap₂ (λ (x y : ℕ). let r : Place = record { line = x; col = y } in r) (a.lines ∙ sym b.lines) (one_column text at p.line p.col q.line q.col a b)

one_reading : (text : List ℕ) (gs : List Glyph) (stage : Stage) (spaced : Bool) (v w : Result (List Token) Offence) → Reads text gs stage spaced v → Reads text gs stage spaced w → v ≡ w
one_reading text gs stage spaced v w (ended _ _ _ e) (ended _ _ _ f) = refl
one_reading text gs stage spaced v w (ended _ _ _ e) (offends _ _ _ code place f _) = absurd (cc (e, f))
one_reading text gs stage spaced v w (ended _ _ _ e) (line_ended _ _ _ r f _) = absurd (cc (e, f))
one_reading text gs stage spaced v w (ended _ _ _ e) (parted _ _ _ n r f _) = absurd (cc (e, f))
one_reading text gs stage spaced v w (ended _ _ _ e) (taken _ _ _ kind n place r whole f _ _ _) = absurd (cc (e, f))
one_reading text gs stage spaced v w (offends _ _ _ code place e a) (ended _ _ _ f) = absurd (cc (e, f))
one_reading text gs stage spaced v w (offends _ _ _ code place e a) (offends _ _ _ code2 place2 f b) = ap₂ (λ (c : ℕ) (p : Place). let o : Offence = record { code = c; place = p } in let answer : Result (List Token) Offence = Err o in answer) (cc (e, f)) (one_place text (offset_of text gs) place place2 a b)
one_reading text gs stage spaced v w (offends _ _ _ code place e a) (line_ended _ _ _ r f _) = absurd (cc (e, f))
one_reading text gs stage spaced v w (offends _ _ _ code place e a) (parted _ _ _ n r f _) = absurd (cc (e, f))
one_reading text gs stage spaced v w (offends _ _ _ code place e a) (taken _ _ _ kind n p r whole f _ _ _) = absurd (cc (e, f))
one_reading text gs stage spaced v w (line_ended _ _ _ r e a) (ended _ _ _ f) = absurd (cc (e, f))
one_reading text gs stage spaced v w (line_ended _ _ _ r e a) (offends _ _ _ code place f _) = absurd (cc (e, f))
one_reading text gs stage spaced v w (line_ended _ _ _ r e a) (line_ended _ _ _ q f b) = one_reading text (drop 1 gs) Beginning true v w a b
one_reading text gs stage spaced v w (line_ended _ _ _ r e a) (parted _ _ _ n q f _) = absurd (cc (e, f))
one_reading text gs stage spaced v w (line_ended _ _ _ r e a) (taken _ _ _ kind n p q whole f _ _ _) = absurd (cc (e, f))
one_reading text gs stage spaced v w (parted _ _ _ n r e a) (ended _ _ _ f) = absurd (cc (e, f))
one_reading text gs stage spaced v w (parted _ _ _ n r e a) (offends _ _ _ code place f _) = absurd (cc (e, f))
one_reading text gs stage spaced v w (parted _ _ _ n r e a) (line_ended _ _ _ q f _) = absurd (cc (e, f))
one_reading text gs stage spaced v w (parted _ _ _ n r e a) (parted _ _ _ m q f b) =
    let same : m ≡ n = cc (e, f) in
    one_reading text (drop n gs) stage true v w a (subst (λ k. Reads text (drop k gs) stage true w) same b)
one_reading text gs stage spaced v w (parted _ _ _ n r e a) (taken _ _ _ kind m p q whole f _ _ _) = absurd (cc (e, f))
one_reading text gs stage spaced v w (taken _ _ _ kind n place r whole e a more is) (ended _ _ _ f) = absurd (cc (e, f))
one_reading text gs stage spaced v w (taken _ _ _ kind n place r whole e a more is) (offends _ _ _ code p f _) = absurd (cc (e, f))
one_reading text gs stage spaced v w (taken _ _ _ kind n place r whole e a more is) (line_ended _ _ _ q f _) = absurd (cc (e, f))
one_reading text gs stage spaced v w (taken _ _ _ kind n place r whole e a more is) (parted _ _ _ m q f _) = absurd (cc (e, f))
one_reading text gs stage spaced v w (taken _ _ _ kind n place r whole e a more is) (taken _ _ _ kind2 n2 place2 r2 whole2 f b more2 is2) =
    let same_kind : kind2 ≡ kind = cc (e, f) in
    let same_length : n2 ≡ n = cc (e, f) in
    let same_place = one_place text (offset_of text gs) place2 place b a in
    let same_rest = one_reading text (drop n gs) (stage_after stage kind) false r r2 more (subst₂ (λ k m. Reads text (drop m gs) (stage_after stage k) false r2) same_kind same_length more2) in
    let front = λ (k : TokenKind) (p : Place) (q : Result (List Token) Offence). with_front (record { kind = k; place = p; first = is_beginning stage; spaced = spaced }) q in
    is ∙ ap (front kind place) same_rest ∙ sym (ap₂ (λ k p. front k p r2) same_kind same_place) ∙ sym is2

one_end : (text : List ℕ) (list list2 : List Token) (end end2 : Place) → list ≡ list2 → end ≡ end2 → ◌≡◌ {A = Result Tokens Offence} (Ok (record { list = list; end = end })) (Ok (record { list = list2; end = end2 }))
one_end text list list2 end end2 e f = ap₂ (λ (l : List Token) (p : Place). let t : Tokens = record { list = l; end = p } in let answer : Result Tokens Offence = Ok t in answer) e f

one_of : (text : List ℕ) (v w : Result Tokens Offence) → Lexes text v → Lexes text w → v ≡ w
one_of text v w (too_large large) (too_large _) = refl
one_of text v w (too_large large) (refused offence small _) = absurd (omega (arith, large, small))
one_of text v w (too_large large) (read list end small _ _) = absurd (omega (arith, large, small))
one_of text v w (refused offence small a) (too_large large) = absurd (omega (arith, large, small))
one_of text v w (refused offence small a) (refused offence2 _ b) = ap (λ (o : Offence). let answer : Result Tokens Offence = Err o in answer) (cc (one_reading text (glyphs_of text) Beginning false _ _ a b))
one_of text v w (refused offence small a) (read list end _ b _) = absurd (cc (one_reading text (glyphs_of text) Beginning false _ _ a b))
one_of text v w (read list end small a at) (too_large large) = absurd (omega (arith, large, small))
one_of text v w (read list end small a at) (refused offence _ b) = absurd (cc (one_reading text (glyphs_of text) Beginning false _ _ a b))
one_of text v w (read list end small a at) (read list2 end2 _ b at2) = one_end text list list2 end end2 (cc (one_reading text (glyphs_of text) Beginning false _ _ a b)) (one_place text (length text) end end2 at at2)

pub one_verdict : OneVerdict
one_verdict = one_of
