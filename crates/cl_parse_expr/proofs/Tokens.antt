-- What a reader sees at an index.
use Rattle.std.proofs.Common.{◌≡◌, ℕ, ◌+◌, ◌<◌, List, ◌∷◌, length, drop, get_or, map, Bool, true, false, refl, sym, ap, ◌∙◌, subst, arith}
use Rattle.std.specs.Prelude.{Option, Some, None, Result, Ok, Err, IfOk, if◌then◌else◌}
use Rattle.std.proofs.lemmas.List.{length-map, drop-map, drop_more}
use Rattle.clv_place.specs.declared.place.Place.{Place}
use Rattle.cl_grammar.specs.declared.lexeme.Lexeme.{Lexeme}
use Rattle.cl_grammar.specs.declared.names.TypeName.{TypeName}
use Rattle.cl_grammar.specs.declared.terminal.Terminal.{Terminal}
use Rattle.cl_grammar.specs.Lexemes.{resolve, resolved, typed_as, is_name, vector_of}
use Rattle.cl_grammar.specs.Items.{StandsAt, IsAt, PlaceAt, TextAt}

-- ---- one token

pub resolved_length : (names : List TypeName) (ls now : List Lexeme) → resolved names ls ≡ now → length ls ≡ length now
resolved_length names ls now e = sym (length-map ls (resolve names)) ∙ ap length e

-- The token that a reader sees at an index is the one there, behind the typedefs.
pub token_at : (names : List TypeName) (ls now : List Lexeme) (at : ℕ) (l : Lexeme) → resolved names ls ≡ now → l ≡ get_or ls at l → at < length now → StandsAt now at (resolve names l)
token_at names ls now at l e g h =
    let n = resolved_length names ls now e in
    let w : at < length ls = omega (arith, n, h) in
    let d : drop at ls ≡ l ∷ drop (at + 1) ls = drop_more ls at l w ∙ ap (λ z. z ∷ drop (at + 1) ls) (sym g) in
    let f : drop at (resolved names ls) ≡ resolve names l ∷ drop (at + 1) (resolved names ls) =
    drop-map (resolve names) at ls ∙ ap (map (resolve names)) d ∙ ap (λ z. resolve names l ∷ z) (sym (drop-map (resolve names) (at + 1) ls)) in
    record { within = h; here = subst (λ z. drop at z ≡ resolve names l ∷ drop (at + 1) z) e f }

pub seen_at : (names : List TypeName) (ls now : List Lexeme) (at : ℕ) (l : Lexeme) (k : Terminal) → resolved names ls ≡ now → l ≡ get_or ls at l → at < length now → k ≡ (resolve names l).terminal → IsAt now at k
seen_at names ls now at l k e g h f = record { token = resolve names l; stands = token_at names ls now at l e g h; is = sym f }

-- ---- where a token stands, and its bytes

typed_place : (l : Lexeme) (o : Option Bool) → (typed_as l o).place ≡ l.place
typed_place l (Some vector) = refl
typed_place l None = refl

typed_text : (l : Lexeme) (o : Option Bool) → (typed_as l o).text ≡ l.text
typed_text l (Some vector) = refl
typed_text l None = refl

either_place : (l : Lexeme) (o : Option Bool) (b : Bool) → (if b then typed_as l o else l).place ≡ l.place
either_place l o true = typed_place l o
either_place l o false = refl

either_text : (l : Lexeme) (o : Option Bool) (b : Bool) → (if b then typed_as l o else l).text ≡ l.text
either_text l o true = typed_text l o
either_text l o false = refl

resolved_place : (names : List TypeName) (l : Lexeme) → (resolve names l).place ≡ l.place
resolved_place names l = either_place l (vector_of names l.text) (is_name l.terminal)

resolved_text : (names : List TypeName) (l : Lexeme) → (resolve names l).text ≡ l.text
resolved_text names l = either_text l (vector_of names l.text) (is_name l.terminal)

pub place_seen : (names : List TypeName) (ls now : List Lexeme) (at : ℕ) (l : Lexeme) (place : Place) → resolved names ls ≡ now → l ≡ get_or ls at l → at < length now → place ≡ l.place → PlaceAt now at place
place_seen names ls now at l place e g h f = record { token = resolve names l; stands = token_at names ls now at l e g h; is = resolved_place names l ∙ sym f }

pub text_seen : (names : List TypeName) (ls now : List Lexeme) (at : ℕ) (l : Lexeme) (text : List ℕ) → resolved names ls ≡ now → l ≡ get_or ls at l → at < length now → text ≡ l.text → TextAt now at text
text_seen names ls now at l text e g h f = record { token = resolve names l; stands = token_at names ls now at l e g h; is = resolved_text names l ∙ sym f }

pub text_given : {E : Type 0} (ts : List Lexeme) (at : ℕ) (r : Result (List ℕ) E) (text : List ℕ) → TextAt ts at text → IfOk r (λ t. t ≡ text) → IfOk r (TextAt ts at)
text_given ts at (Ok t) text h e = subst (TextAt ts at) (sym e) h
text_given ts at (Err e) text h f = tt
