-- Where a name stands among holdings, and what a change there leaves.
use Rattle.std.proofs.Common.{◌≡◌, ◌≢◌, ℕ, ◌<◌, ◌≤◌, List, [], ◌∷◌, ◌++◌, length, max, get_or, set, Bool, true, false, Option, Some, None, position, refl, sym, ◌∙◌, ap, subst, arith, ltb, inl, inr}
use Rattle.std.specs.List.{position_or_len, find, slice_get}
use Rattle.std.specs.Str.{bytes_eq}
use Rattle.std.specs.Option.{option_or, unwrap_or}
use Rattle.std.proofs.lemmas.Bool.{ltb-true, ltb-false, cases_Bool, false_from_ne_true, cond-false, cond-true, false≢true}
use Rattle.std.proofs.lemmas.Slice.Eq.{bytes_eq-Decides}
use Rattle.std.proofs.lemmas.List.Folds.{find_at, find-set, find_past, find-append}
use Rattle.std.proofs.lemmas.Option.{slice_get-get_or, cond_some, slice_get_past, none-some, same_Some}
use Rattle.clv_io.specs.Files.{Lacks}
use Rattle.clv_io.specs.Holdings.{Holding, is_named, holding_of, held_by, room_by, with_room, with_bytes, Gets}

-- the first place of a name is in the list
place_within : (holdings : List Holding) (name : List ℕ) (at : ℕ) → position (is_named name) holdings ≡ Some at → (at ≡ position_or_len (is_named name) holdings) × (at < length holdings)
place_within holdings name at e =
    let place : ℕ = position_or_len (is_named name) holdings in
    let parts : (ltb place (length holdings) ≡ true) × (place ≡ at) = cond_some _ _ _ e in
    let within : place < length holdings = ltb-true _ _ parts.0 in
    (sym parts.1, subst (λ n. n < length holdings) parts.1 within)

holding_at : (holdings : List Holding) (name : List ℕ) (at : ℕ) (d : Holding) → position (is_named name) holdings ≡ Some at → holding_of holdings name ≡ Some (get_or holdings at d)
holding_at holdings name at d e =
    let place = place_within holdings name at e in
    find_at (is_named name) holdings ∙ ap (slice_get holdings) (sym place.0) ∙ slice_get-get_or holdings at d place.1

holding_none : (holdings : List Holding) (name : List ℕ) → position (is_named name) holdings ≡ None → holding_of holdings name ≡ None
holding_none holdings name e =
    let place : ℕ = position_or_len (is_named name) holdings in
    elim (cases_Bool (ltb place (length holdings))) [
      | inl t ↦ absurd (none-some place (sym e ∙ cond-true _ _ _ t))
      | inr f ↦ find_at (is_named name) holdings ∙ slice_get_past holdings place (ltb-false _ _ f)
    ]

found_passes : (test : Holding → Bool) (holdings : List Holding) (holding : Holding) → find test holdings ≡ Some holding → test holding ≡ true
found_passes test [] holding e = absurd (none-some holding e)
found_passes test (first ∷ others) holding e =
    elim (cases_Bool (test first)) [
      | inl t ↦ subst (λ h. test h ≡ true) (same_Some _ _ (sym (cond-true _ _ _ t) ∙ e)) t
      | inr f ↦ found_passes test others holding (sym (cond-false _ _ _ f) ∙ e)
    ]

is_named-self : (holding : Holding) → is_named holding.name holding ≡ true
is_named-self holding = (bytes_eq-Decides holding.name holding.name).1 refl

-- what stands under a name has the name
pub named_so : (holdings : List Holding) (name : List ℕ) (holding : Holding) → holding_of holdings name ≡ Some holding → holding.name ≡ name
named_so holdings name holding e = (bytes_eq-Decides holding.name name).0 (found_passes (is_named name) holdings holding e)

is_named-apart : (holding : Holding) (other : List ℕ) → other ≢ holding.name → is_named other holding ≡ false
is_named-apart holding other apart =
    false_from_ne_true _ (λ t. apart (sym ((bytes_eq-Decides holding.name other).0 t)))

-- another holding in the place of a name's first
Gets-set : (holdings : List Holding) (at : ℕ) (holding : Holding) → position (is_named holding.name) holdings ≡ Some at → Gets holdings (set holdings at holding) holding
Gets-set holdings at holding e =
    let place = place_within holdings holding.name at e in
    let before : Holding = get_or holdings at holding in
    let same : before.name ≡ holding.name = named_so holdings holding.name before (holding_at holdings holding.name at holding e) in
    record {
      here = find-set (is_named holding.name) holdings at holding place.0 place.1 (is_named-self holding);
      others = λ other apart. find_past (is_named other) holdings at holding holding (is_named-apart before other (λ p. apart (p ∙ same))) (is_named-apart holding other apart);
    }

option_or-none : (o : Option Holding) → option_or o None ≡ o
option_or-none None = refl
option_or-none (Some holding) = refl

-- a holding of a name that had none
Gets-push : (holdings : List Holding) (holding : Holding) → holding_of holdings holding.name ≡ None → Gets holdings (holdings ++ holding ∷ []) holding
Gets-push holdings holding e = record {
  here = find-append (is_named holding.name) holdings (holding ∷ []) ∙ ap (λ o. option_or o (find (is_named holding.name) (holding ∷ []))) e ∙ cond-true _ _ _ (is_named-self holding);
  others = λ other apart. find-append (is_named other) holdings (holding ∷ []) ∙ ap (option_or (find (is_named other) holdings)) (cond-false _ _ _ (is_named-apart holding other apart)) ∙ option_or-none _;
}

-- what a look-up by index finds
pub read_at : (holdings slots : List Holding) (name : List ℕ) (at : ℕ) (holding : Holding) → slots ≡ holdings → Some at ≡ position (is_named name) slots → holding ≡ get_or slots at holding → holding_of holdings name ≡ Some holding
read_at holdings slots name at holding same place is =
    ap (λ s. holding_of s name) (sym same) ∙ holding_at slots name at holding (sym place) ∙ ap Some (sym is)

pub read_none : (holdings slots : List Holding) (name : List ℕ) → slots ≡ holdings → None ≡ position (is_named name) slots → holding_of holdings name ≡ None
read_none holdings slots name same place = ap (λ s. holding_of s name) (sym same) ∙ holding_none slots name (sym place)

pub set_at : (holdings slots : List Holding) (name : List ℕ) (at : ℕ) (holding : Holding) → slots ≡ holdings → Some at ≡ position (is_named name) slots → holding.name ≡ name → Gets holdings (set slots at holding) holding
set_at holdings slots name at holding same place named =
    subst (λ s. Gets s (set slots at holding) holding) same (Gets-set slots at holding (ap (λ n. position (is_named n) slots) named ∙ sym place))

pub pushed : (holdings slots : List Holding) (holding : Holding) → slots ≡ holdings → None ≡ position (is_named holding.name) slots → Gets holdings (slots ++ holding ∷ []) holding
pushed holdings slots holding same place =
    subst (λ s. Gets s (slots ++ holding ∷ []) holding) same (Gets-push slots holding (holding_none slots holding.name (sym place)))

-- a place of a shelf that has been given room
pub reserved_at : (holdings slots : List Holding) (name : List ℕ) (at room : ℕ) (before after : Holding) → slots ≡ holdings → Some at ≡ position (is_named name) slots → before ≡ get_or slots at before → after ≡ record before { room = max before.room room } → Gets holdings (set slots at after) (with_room holdings name room)
reserved_at holdings slots name at room before after same place is changed =
    let found : holding_of holdings name ≡ Some before = read_at holdings slots name at before same place is in
    let named : before.name ≡ name = named_so holdings name before found in
    let here : after ≡ with_room holdings name room =
    changed ∙ ap (λ n. let r : Holding = record { name = n; held = before.held; room = max before.room room } in r) named
    ∙ ap (λ o. let r : Holding = record { name = name; held = held_by o; room = max (unwrap_or (room_by o) 0) room } in r) (sym found) in
    subst (λ h. Gets holdings (set slots at after) h) here (set_at holdings slots name at after same place (ap (λ h. h.name) changed ∙ named))

-- a name that is new on a shelf
pub reserved_new : (holdings slots new : List Holding) (name : List ℕ) (room : ℕ) (holding : Holding) → slots ≡ holdings → None ≡ position (is_named name) slots → holding ≡ record { name = name; held = None; room = room } → new ≡ slots ++ holding ∷ [] → Gets holdings new (with_room holdings name room)
reserved_new holdings slots new name room holding same place is pushes =
    let large : room ≡ max 0 room = omega arith in
    let here : holding ≡ with_room holdings name room =
    is ∙ ap (λ n. let r : Holding = record { name = name; held = None; room = n } in r) large
    ∙ ap (λ o. let r : Holding = record { name = name; held = held_by o; room = max (unwrap_or (room_by o) 0) room } in r) (sym (read_none holdings slots name same place)) in
    let absent : None ≡ position (is_named holding.name) slots = place ∙ ap (λ n. position (is_named n) slots) (sym (ap (λ h. h.name) is)) in
    let added : Gets holdings (slots ++ holding ∷ []) holding = pushed holdings slots holding same absent in
    subst (λ h. Gets holdings new h) here (subst (λ s. Gets holdings s holding) (sym pushes) added)

-- a place of a shelf whose bytes have been set
pub written_at : (holdings slots : List Holding) (name bytes : List ℕ) (at : ℕ) (before after : Holding) → slots ≡ holdings → Some at ≡ position (is_named name) slots → before ≡ get_or slots at before → after ≡ record before { held = Some bytes } → Gets holdings (set slots at after) (with_bytes holdings name bytes)
written_at holdings slots name bytes at before after same place is changed =
    let found : holding_of holdings name ≡ Some before = read_at holdings slots name at before same place is in
    let named : before.name ≡ name = named_so holdings name before found in
    let here : after ≡ with_bytes holdings name bytes =
    changed ∙ ap (λ n. let r : Holding = record { name = n; held = Some bytes; room = before.room } in r) named
    ∙ ap (λ o. let r : Holding = record { name = name; held = Some bytes; room = unwrap_or (room_by o) 0 } in r) (sym found) in
    subst (λ h. Gets holdings (set slots at after) h) here (set_at holdings slots name at after same place (ap (λ h. h.name) changed ∙ named))

-- whether bytes have room at a place of a shelf
pub lacks_at : (holdings slots : List Holding) (name : List ℕ) (at n : ℕ) (holding : Holding) → slots ≡ holdings → Some at ≡ position (is_named name) slots → holding ≡ get_or slots at holding → holding.room < n → Lacks (room_by (holding_of holdings name)) n
lacks_at holdings slots name at n holding same place is low =
    subst (λ o. Lacks (room_by o) n) (sym (read_at holdings slots name at holding same place is)) low

pub fits_at : (holdings slots : List Holding) (name : List ℕ) (at n : ℕ) (holding : Holding) → slots ≡ holdings → Some at ≡ position (is_named name) slots → holding ≡ get_or slots at holding → n ≤ holding.room → Lacks (room_by (holding_of holdings name)) n → ⊥
fits_at holdings slots name at n holding same place is fits lacks =
    let low : Lacks (room_by (Some holding)) n = subst (λ o. Lacks (room_by o) n) (read_at holdings slots name at holding same place is) lacks in
    omega arith

pub lacks_none : (holdings slots : List Holding) (name : List ℕ) (n : ℕ) → slots ≡ holdings → None ≡ position (is_named name) slots → Lacks (room_by (holding_of holdings name)) n
lacks_none holdings slots name n same place = subst (λ o. Lacks (room_by o) n) (sym (read_none holdings slots name same place)) tt

kept_room : (room : Option ℕ) (n : ℕ) → (Lacks room n → ⊥) → Some (unwrap_or room 0) ≡ room
kept_room None n fits = absurd (fits tt)
kept_room (Some room) n fits = refl

-- bytes that had room leave all room as it was
pub room_kept : (old new : List Holding) (name bytes : List ℕ) → Gets old new (with_bytes old name bytes) → (Lacks (room_by (holding_of old name)) (length bytes) → ⊥) → (other : List ℕ) → room_by (holding_of new other) ≡ room_by (holding_of old other)
room_kept old new name bytes gets fits other =
    elim (cases_Bool (bytes_eq other name)) [
      | inl t ↦
          let same : other ≡ name = (bytes_eq-Decides other name).0 t in
          subst (λ n. room_by (holding_of new n) ≡ room_by (holding_of old n)) (sym same) (ap room_by gets.here ∙ kept_room (room_by (holding_of old name)) (length bytes) fits)
      | inr f ↦
          let apart : other ≢ name = λ p. false≢true (sym f ∙ (bytes_eq-Decides other name).1 p) in
          ap room_by (gets.others other apart)
    ]
