-- What was read so far, and what stands for the rest.
use Rattle.std.proofs.Common.{◌≡◌, ℕ, zero, suc, ◌+◌, ◌-◌, ◌*◌, ◌<◌, ◌≤◌, Bool, true, false, List, [], ◌∷◌, ◌++◌, length, drop, get_or, Result, Ok, Err, refl, sym, ap, ◌∙◌, subst, arith, append_assoc, append-nil, drop-drop, length-drop, le_refl}
use Rattle.std.proofs.lemmas.List.{drop-map, drop_all}
use Rattle.clv_place.specs.declared.place.Place.{Place}
use Rattle.clv_place.specs.declared.stop.Offence.{Offence}
use Rattle.cl_lexer.specs.declared.token.Token.{Token}
use Rattle.cl_lexer.specs.declared.token.TokenKind.{TokenKind}
use Rattle.cl_lexer.specs.declared.front.Front.TheVariants as stands
use Rattle.cl_lexer.specs.declared.front.Stage.{Stage}
use Rattle.cl_lexer.specs.declared.front.Stage.TheVariants.{Beginning}
use Rattle.cl_lexer.specs.Answers.{Spread, at_end, glyph}
use Rattle.cl_lexer.specs.Fronts.{front_of, stage_after, is_beginning}
use Rattle.cl_lexer.specs.Joined.{Glyph, glyphs_of, bytes_of}
use Rattle.cl_lexer.specs.Tokens.{StandsAt, with_front, Reads, ended, offends, line_ended, parted, taken, Lexes, too_large, refused, read}
use Rattle.cl_lexer.proofs.Advances.{pending, line_end_within, parted_within, taken_within}

-- ---- glyphs by their bytes and places

spread_bytes : (text : List ℕ) (gs : List Glyph) (bytes : List ℕ) (places : List Place) → Spread text gs bytes places → bytes ≡ bytes_of gs
spread_bytes text gs bytes places (at_end p h) = refl
spread_bytes text gs bytes places (glyph g rest p bs ps h s) = ap (λ xs. g.byte ∷ xs) (spread_bytes text rest bs ps s)

pub spread_count : (text : List ℕ) (gs : List Glyph) (bytes : List ℕ) (places : List Place) → Spread text gs bytes places → length places ≡ length bytes + 1
spread_count text gs bytes places (at_end p h) = refl
spread_count text gs bytes places (glyph g rest p bs ps h s) = let more = spread_count text rest bs ps s in omega (arith, more)

spread_at : (text : List ℕ) (gs : List Glyph) (bytes : List ℕ) (places : List Place) (at : ℕ) (d : Place) → Spread text gs bytes places → at ≤ length bytes → StandsAt text (drop at gs) (get_or places at d)
spread_at text gs bytes places zero d (at_end p h) within = h
spread_at text gs bytes places (suc at) d (at_end p h) within = absurd (omega (arith, within))
spread_at text gs bytes places zero d (glyph g rest p bs ps h s) within = h
spread_at text gs bytes places (suc at) d (glyph g rest p bs ps h s) within = spread_at text rest bs ps at d s (omega (arith, within))

no_glyphs : (gs : List Glyph) → bytes_of gs ≡ [] → gs ≡ []
no_glyphs [] e = refl
no_glyphs (g ∷ gs) e = absurd (cc e)

drop_bytes : (text : List ℕ) (bytes : List ℕ) (places : List Place) (at : ℕ) → Spread text (glyphs_of text) bytes places → bytes_of (drop at (glyphs_of text)) ≡ drop at bytes
drop_bytes text bytes places at s = sym (drop-map (λ g. g.byte) at (glyphs_of text)) ∙ ap (drop at) (sym (spread_bytes text (glyphs_of text) bytes places s))

place_at : (text : List ℕ) (bytes : List ℕ) (places : List Place) (at : ℕ) (place : Place) → Spread text (glyphs_of text) bytes places → at ≤ length bytes → place ≡ get_or places at place → StandsAt text (drop at (glyphs_of text)) place
place_at text bytes places at place s within is = subst (λ p. StandsAt text (drop at (glyphs_of text)) p) (sym is) (spread_at text (glyphs_of text) bytes places at place s within)

end_at : (text : List ℕ) (bytes : List ℕ) (places : List Place) (place : Place) → Spread text (glyphs_of text) bytes places → place ≡ get_or places (length bytes) place → StandsAt text [] place
end_at text bytes places place s is =
    let none = drop_bytes text bytes places (length bytes) s ∙ drop_all (length bytes) bytes (le_refl (length bytes)) in
    subst (λ gs. StandsAt text gs place) (no_glyphs (drop (length bytes) (glyphs_of text)) none) (place_at text bytes places (length bytes) place s (le_refl (length bytes)) is)

-- ---- tokens so far

abbrev with_fronts : List Token → Result (List Token) Offence → Result (List Token) Offence
with_fronts ts (Ok us) = Ok (ts ++ us)
with_fronts ts (Err e) = Err e

-- whatever the rest reads as completes the tokens
pub record Leads (text : List ℕ) (at : ℕ) (stage : Stage) (spaced : Bool) (tokens : List Token) : Type 0 where
  pub by : (r : Result (List Token) Offence) → Reads text (drop at (glyphs_of text)) stage spaced r → Reads text (glyphs_of text) Beginning false (with_fronts tokens r)

with_fronts-nil : (r : Result (List Token) Offence) → with_fronts [] r ≡ r
with_fronts-nil (Ok us) = refl
with_fronts-nil (Err e) = refl

with_fronts-front : (ts : List Token) (t : Token) (r : Result (List Token) Offence) → with_fronts ts (with_front t r) ≡ with_fronts (ts ++ t ∷ []) r
with_fronts-front ts t (Ok us) = ap Ok (sym (append_assoc ts (t ∷ []) us))
with_fronts-front ts t (Err e) = refl

pub leads_start : (text : List ℕ) → Leads text 0 Beginning false []
leads_start text = record { by = λ r h. subst (Reads text (glyphs_of text) Beginning false) (sym (with_fronts-nil r)) h }

pub leads_line_end : (text bytes : List ℕ) (places : List Place) (at : ℕ) (stage : Stage) (spaced : Bool) (tokens : List Token) → Spread text (glyphs_of text) bytes places → front_of stage (drop at bytes) ≡ stands.LineEnd → Leads text at stage spaced tokens → Leads text (at + 1) Beginning true tokens
leads_line_end text bytes places at stage spaced tokens s e l = record {
  by = λ r h.
      let gs = drop at (glyphs_of text) in
      l.by r (line_ended gs stage spaced r (ap (front_of stage) (drop_bytes text bytes places at s) ∙ e) (subst (λ xs. Reads text xs Beginning true r) (sym (drop-drop 1 at (glyphs_of text))) h));
}

pub leads_parted : (text bytes : List ℕ) (places : List Place) (at n : ℕ) (stage : Stage) (spaced : Bool) (tokens : List Token) → Spread text (glyphs_of text) bytes places → front_of stage (drop at bytes) ≡ stands.Apart n → Leads text at stage spaced tokens → Leads text (at + n) stage true tokens
leads_parted text bytes places at n stage spaced tokens s e l = record {
  by = λ r h.
      let gs = drop at (glyphs_of text) in
      l.by r (parted gs stage spaced n r (ap (front_of stage) (drop_bytes text bytes places at s) ∙ e) (subst (λ xs. Reads text xs stage true r) (sym (drop-drop n at (glyphs_of text))) h));
}

pub leads_taken : (text bytes : List ℕ) (places : List Place) (at n : ℕ) (stage next : Stage) (spaced first : Bool) (k : TokenKind) (place : Place) (tokens new : List Token) → Spread text (glyphs_of text) bytes places → at ≤ length bytes → front_of stage (drop at bytes) ≡ stands.Begins k n → place ≡ get_or places at place → first ≡ is_beginning stage → next ≡ stage_after stage k → new ≡ tokens ++ record { kind = k; place = place; first = first; spaced = spaced } ∷ [] → Leads text at stage spaced tokens → Leads text (at + n) next false new
leads_taken text bytes places at n stage next spaced first k place tokens new s within e is_place is_first is_next is_new l = record {
  by = λ r h.
      let gs = drop at (glyphs_of text) in
      let t : Token = record { kind = k; place = place; first = is_beginning stage; spaced = spaced } in
      let token = λ (f : Bool). let u : Token = record { kind = k; place = place; first = f; spaced = spaced } in u in
      let tokens_are : tokens ++ t ∷ [] ≡ new = ap (λ f. tokens ++ token f ∷ []) (sym is_first) ∙ sym is_new in
      let rest : Reads text (drop n gs) (stage_after stage k) false r = subst (λ st. Reads text (drop n gs) st false r) is_next (subst (λ xs. Reads text xs next false r) (sym (drop-drop n at (glyphs_of text))) h) in
      let whole = l.by (with_front t r) (taken gs stage spaced k n place r (with_front t r) (ap (front_of stage) (drop_bytes text bytes places at s) ∙ e) (place_at text bytes places at place s within is_place) rest refl) in
      subst (Reads text (glyphs_of text) Beginning false) (with_fronts-front tokens t r ∙ ap (λ ts. with_fronts ts r) tokens_are) whole;
}

pub leads_end : (text bytes : List ℕ) (places : List Place) (at : ℕ) (stage : Stage) (spaced : Bool) (place : Place) (tokens : List Token) → length text ≤ 1048576 → Spread text (glyphs_of text) bytes places → front_of stage (drop at bytes) ≡ stands.End → place ≡ get_or places (length bytes) place → Leads text at stage spaced tokens → Lexes text (Ok (record { list = tokens; end = place }))
leads_end text bytes places at stage spaced place tokens small s e is_place l =
    let gs = drop at (glyphs_of text) in
    let reads = l.by (Ok []) (ended gs stage spaced (ap (front_of stage) (drop_bytes text bytes places at s) ∙ e)) in
    read tokens place small (subst (λ ts. Reads text (glyphs_of text) Beginning false (Ok ts)) (append-nil tokens) reads) (end_at text bytes places place s is_place)

pub leads_offence : (text bytes : List ℕ) (places : List Place) (at code : ℕ) (stage : Stage) (spaced : Bool) (place : Place) (tokens : List Token) → length text ≤ 1048576 → Spread text (glyphs_of text) bytes places → at ≤ length bytes → front_of stage (drop at bytes) ≡ stands.Bad code → place ≡ get_or places at place → Leads text at stage spaced tokens → Lexes text (Err (record { code = code; place = place }))
leads_offence text bytes places at code stage spaced place tokens small s within e is_place l =
    let gs = drop at (glyphs_of text) in
    let offence : Offence = record { code = code; place = place } in
    refused offence small (l.by (Err offence) (offends gs stage spaced code place (ap (front_of stage) (drop_bytes text bytes places at s) ∙ e) (place_at text bytes places at place s within is_place)))

pub too_long : (text : List ℕ) → 1048576 < length text → Lexes text (Err (record { code = 105; place = record { line = 1; col = 1 } }))
too_long text large = too_large large

-- ---- bounds

pub line_end_bound : (bytes : List ℕ) (at : ℕ) (stage : Stage) → front_of stage (drop at bytes) ≡ stands.LineEnd → at < length bytes
line_end_bound bytes at stage e = let some = line_end_within stage (drop at bytes) e in let len = length-drop at bytes in omega (arith, some, len)

pub parted_bound : (bytes : List ℕ) (at n : ℕ) (stage : Stage) → at ≤ length bytes → front_of stage (drop at bytes) ≡ stands.Apart n → (0 < n) × (at + n ≤ length bytes)
parted_bound bytes at n stage within e = let h = parted_within stage (drop at bytes) n e in let len = length-drop at bytes in (h.0, omega (arith, h.1, len, within))

pub taken_bound : (bytes : List ℕ) (at n : ℕ) (stage : Stage) (k : TokenKind) → at ≤ length bytes → front_of stage (drop at bytes) ≡ stands.Begins k n → at + n ≤ length bytes
taken_bound bytes at n stage k within e = let h = taken_within stage (drop at bytes) k n e in let len = length-drop at bytes in omega (arith, h.0, len, within)

pub taken_shorter : (bytes : List ℕ) (at n : ℕ) (stage next : Stage) (k : TokenKind) → at ≤ length bytes → front_of stage (drop at bytes) ≡ stands.Begins k n → next ≡ stage_after stage k → 2 * (length bytes - (at + n)) + pending next < 2 * (length bytes - at) + pending stage
taken_shorter bytes at n stage next k within e is =
    let h = taken_within stage (drop at bytes) k n e in
    let shorter = h.1 in
    let bound = h.0 in
    let len = length-drop at bytes in
    let same = ap pending is in
    omega (arith, shorter, bound, len, same, within)

pub line_end_shorter : (bytes : List ℕ) (at : ℕ) (stage : Stage) → front_of stage (drop at bytes) ≡ stands.LineEnd → 2 * (length bytes - (at + 1)) + pending Beginning < 2 * (length bytes - at) + pending stage
unfolding pending
line_end_shorter bytes at stage e = let within = line_end_bound bytes at stage e in omega (arith, within)

pub parted_shorter : (bytes : List ℕ) (at n : ℕ) (stage : Stage) → at ≤ length bytes → front_of stage (drop at bytes) ≡ stands.Apart n → 2 * (length bytes - (at + n)) + pending stage < 2 * (length bytes - at) + pending stage
parted_shorter bytes at n stage within e = let h = parted_bound bytes at n stage within e in let some = h.0 in let bound = h.1 in omega (arith, some, bound)

pub ruleset readings = (leads_start, too_long, spread_count)
