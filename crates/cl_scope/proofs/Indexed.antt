-- Declarations, with the newest of each name indexed: one more, one less, and what is found.
use Rattle.std.proofs.Common.{◌≡◌, ℕ, suc, ◌<◌, Bool, true, false, Option, Some, None, List, [], ◌∷◌, ◌++◌, length, slice_get, refl, sym, ap, ◌∙◌, subst, true≢false, arith}
use Rattle.std.specs.Prelude.{bytes_eq, if◌then◌else◌, is_some, reverse}
use Rattle.std.specs.Cmp.Lexicographic.{nat_list_eq_equiv}
use Rattle.std.proofs.lemmas.Bool.{and_parts, and_from}
use Rattle.std.proofs.lemmas.List.{length-map, length-reverse, reverse-append, reverse-reverse}
use Rattle.std.proofs.lemmas.Slice.Eq.{bytes_eq-Decides}
use Rattle.cl_builtins.specs.Kinds.{alike}
use Rattle.cl_scope.specs.declared.declarations.Row.{Row}
use Rattle.cl_scope.specs.declared.scope.Declared.{Declared}
use Rattle.cl_scope.specs.declared.spaces.NameSpaces.{NameSpaces}
use Rattle.cl_scope.specs.Names.{is_tag, is_called, newest}
use Rattle.cl_scope.specs.Places.{joined, place_in, has_room_in, AreSameIn, IsMovedIn}
use Rattle.cl_scope.specs.Rows.{declared_by, newest_at, IsIndexed}
use Rattle.cl_scope.proofs.Choice.{both, chosen, get_left, get_last}

-- ---- a declaration is called by its own name

alike_self : (b : Bool) → alike b b ≡ true
alike_self true = refl
alike_self false = refl

alike_same : (a b : Bool) → alike a b ≡ true → a ≡ b
alike_same true b e = sym e
alike_same false false e = refl
alike_same false true e = absurd (true≢false (sym e))

called_self : (d : Declared) → is_called (is_tag d.kind) d.name d ≡ true
called_self d = and_from (bytes_eq d.name d.name) (alike (is_tag d.kind) (is_tag d.kind)) (nat_list_eq_equiv.refl d.name) (alike_self (is_tag d.kind))

called_same : (tag : Bool) (name : List ℕ) (d : Declared) → is_called tag name d ≡ true → (tag ≡ is_tag d.kind) × (name ≡ d.name)
called_same tag name d e =
    let p = and_parts (bytes_eq name d.name) (alike tag (is_tag d.kind)) e in
    (alike_same tag (is_tag d.kind) p.1, (bytes_eq-Decides name d.name).0 p.0)

same_newest : (tag space : Bool) (name other : List ℕ) (ds : List Declared) → tag ≡ space → name ≡ other → newest_at tag name ds ≡ newest_at space other ds
same_newest tag space name other ds e f = ap (λ t. newest_at t name ds) e ∙ ap (λ n. newest_at space n ds) f

-- ---- one more, and one less

pushed : (rows : List Row) (row : Row) (old middle new : NameSpaces) → IsIndexed rows old → AreSameIn old middle → row.hides ≡ place_in middle (is_tag row.declared.kind) row.declared.name → IsMovedIn middle new (is_tag row.declared.kind) row.declared.name (Some (length rows)) → IsIndexed (row ∷ rows) new
pushed rows row old middle new indexed same hides moved =
    record {
      each = λ tag name. moved tag name ∙ both (is_called tag name row.declared) (Some (length rows)) (place_in middle tag name) (Some (length (declared_by rows))) (newest_at tag name (declared_by rows)) (ap (λ n. Some n) (sym (length-map rows (λ r. r.declared)))) (same tag name ∙ indexed.each tag name);
      hides = (hides ∙ same (is_tag row.declared.kind) row.declared.name ∙ indexed.each (is_tag row.declared.kind) row.declared.name, indexed.hides);
    }

popped : (rows : List Row) (row : Row) (old new : NameSpaces) → IsIndexed (row ∷ rows) old → IsMovedIn old new (is_tag row.declared.kind) row.declared.name row.hides → IsIndexed rows new
popped rows row old new indexed moved = record { each = λ tag name. moved tag name ∙ by tag name (is_called tag name row.declared) refl; hides = indexed.hides.1 }
  where
    by : (tag : Bool) (name : List ℕ) (b : Bool) → is_called tag name row.declared ≡ b → (if b then row.hides else place_in old tag name) ≡ newest_at tag name (declared_by rows)
    by tag name true e =
        let own = called_same tag name row.declared e in
        indexed.hides.0 ∙ same_newest (is_tag row.declared.kind) tag row.declared.name name (declared_by rows) (sym own.0) (sym own.1)
    by tag name false e = indexed.each tag name ∙ chosen (is_called tag name row.declared) false (Some (length (declared_by rows))) (newest_at tag name (declared_by rows)) e

-- the same where the list is told from its other end
turned_onto : (old rows : List Row) (row : Row) → old ≡ rows ++ row ∷ [] → reverse old ≡ row ∷ reverse rows
turned_onto old rows row is = ap reverse is ∙ reverse-append rows (row ∷ [])

-- ---- a name that stands somewhere has room

some_joined : (o : Option (Option ℕ)) → is_some (joined o) ≡ true → is_some o ≡ true
some_joined None e = e
some_joined (Some place) e = refl

room_somewhere : (spaces : NameSpaces) (tag : Bool) (name : List ℕ) → is_some (place_in spaces tag name) ≡ true → has_room_in spaces tag name ≡ true
room_somewhere spaces true name e = some_joined _ e
room_somewhere spaces false name e = some_joined _ e

top_has_room : (rows : List Row) (row : Row) (spaces : NameSpaces) → IsIndexed (row ∷ rows) spaces → has_room_in spaces (is_tag row.declared.kind) row.declared.name ≡ true
top_has_room rows row spaces indexed =
    room_somewhere spaces (is_tag row.declared.kind) row.declared.name (ap is_some (indexed.each (is_tag row.declared.kind) row.declared.name ∙ chosen (is_called (is_tag row.declared.kind) row.declared.name row.declared) true (Some (length (declared_by rows))) (newest_at (is_tag row.declared.kind) row.declared.name (declared_by rows)) (called_self row.declared)))

-- ---- what is found

abbrev pub row_declared : Option Row → Option Declared
row_declared None = None
row_declared (Some row) = Some row.declared

abbrev pub at_row : Option ℕ → List Row → Option Declared
at_row None rows = None
at_row (Some at) rows = row_declared (slice_get rows at)

abbrev pub IsBelow : Option ℕ → ℕ → Type 0
IsBelow None n = Unit {0}
IsBelow (Some at) n = at < n

below_more : (o : Option ℕ) (n : ℕ) → IsBelow o n → IsBelow o (suc n)
below_more None n h = tt
below_more (Some at) n h = omega arith

pub newest_below : (tag : Bool) (name : List ℕ) (ds : List Declared) → IsBelow (newest_at tag name ds) (length ds)
newest_below tag name [] = tt
newest_below tag name (d ∷ ds) = by (is_called tag name d) (newest_below tag name ds)
  where
    by : (b : Bool) → IsBelow (newest_at tag name ds) (length ds) → IsBelow (if b then Some (length ds) else newest_at tag name ds) (suc (length ds))
    by true h = omega arith
    by false h = below_more (newest_at tag name ds) (length ds) h

more_rows : (o : Option ℕ) (rows : List Row) (row : Row) → IsBelow o (length rows) → at_row o rows ≡ at_row o (rows ++ row ∷ [])
more_rows None rows row h = refl
more_rows (Some at) rows row h = ap row_declared (sym (get_left rows (row ∷ []) at h))

turned : (rows : List Row) → length (reverse rows) ≡ length (declared_by rows)
turned rows = length-reverse rows ∙ sym (length-map rows (λ r. r.declared))

turned_more : (rows : List Row) (row : Row) → reverse (row ∷ rows) ≡ reverse rows ++ row ∷ []
turned_more rows row = reverse-append (row ∷ []) rows

last_row : (rows : List Row) (row : Row) → Some row.declared ≡ at_row (Some (length (declared_by rows))) (reverse rows ++ row ∷ [])
last_row rows row = ap row_declared (sym (get_last (reverse rows) row) ∙ ap (slice_get (reverse rows ++ row ∷ [])) (turned rows))

newest_row : (tag : Bool) (name : List ℕ) (rows : List Row) → newest tag name (declared_by rows) ≡ at_row (newest_at tag name (declared_by rows)) (reverse rows)
newest_row tag name [] = refl
newest_row tag name (row ∷ rows) = by (is_called tag name row.declared) (newest_row tag name rows) ∙ ap (at_row (newest_at tag name (declared_by (row ∷ rows)))) (sym (turned_more rows row))
  where
    by : (b : Bool) → newest tag name (declared_by rows) ≡ at_row (newest_at tag name (declared_by rows)) (reverse rows) → (if b then Some row.declared else newest tag name (declared_by rows)) ≡ at_row (if b then Some (length (declared_by rows)) else newest_at tag name (declared_by rows)) (reverse rows ++ row ∷ [])
    by true rest = last_row rows row
    by false rest = rest ∙ more_rows (newest_at tag name (declared_by rows)) (reverse rows) row (subst (IsBelow (newest_at tag name (declared_by rows))) (sym (turned rows)) (newest_below tag name (declared_by rows)))

-- the row at the place of a name has its newest declaration
pub found : (tag : Bool) (name : List ℕ) (rows : List Row) (spaces : NameSpaces) (place : Option ℕ) → IsIndexed (reverse rows) spaces → place ≡ place_in spaces tag name → at_row place rows ≡ newest tag name (declared_by (reverse rows))
found tag name rows spaces place indexed is =
    ap (λ p. at_row p rows) (is ∙ indexed.each tag name) ∙ ap (at_row (newest_at tag name (declared_by (reverse rows)))) (sym (reverse-reverse rows)) ∙ sym (newest_row tag name (reverse rows))

-- ---- the same where the oldest stands first

pub row_pushed : (rows now : List Row) (row : Row) (old middle new : NameSpaces) (tag : Bool) (name : List ℕ) (at : ℕ) → now ≡ rows ++ row ∷ [] → IsIndexed (reverse rows) old → AreSameIn old middle → row.hides ≡ place_in middle (is_tag row.declared.kind) row.declared.name → tag ≡ is_tag row.declared.kind → name ≡ row.declared.name → at ≡ length rows → IsMovedIn middle new tag name (Some at) → IsIndexed (reverse now) new
row_pushed rows now row old middle new tag name at is indexed same hides tagged named last moved =
    let one : IsMovedIn middle new (is_tag row.declared.kind) name (Some at) = subst (λ t. IsMovedIn middle new t name (Some at)) tagged moved in
    let two : IsMovedIn middle new (is_tag row.declared.kind) row.declared.name (Some at) = subst (λ n. IsMovedIn middle new (is_tag row.declared.kind) n (Some at)) named one in
    let three : IsMovedIn middle new (is_tag row.declared.kind) row.declared.name (Some (length (reverse rows))) = subst (λ k. IsMovedIn middle new (is_tag row.declared.kind) row.declared.name (Some k)) (last ∙ sym (length-reverse rows)) two in
    subst (λ l. IsIndexed l new) (sym (turned_onto now rows row is)) (pushed (reverse rows) row old middle new indexed same hides three)

pub row_popped : (was rows : List Row) (row : Row) (old new : NameSpaces) (tag : Bool) (name : List ℕ) → was ≡ rows ++ row ∷ [] → IsIndexed (reverse was) old → tag ≡ is_tag row.declared.kind → name ≡ row.declared.name → IsMovedIn old new tag name row.hides → IsIndexed (reverse rows) new
row_popped was rows row old new tag name is indexed tagged named moved =
    let one : IsMovedIn old new (is_tag row.declared.kind) name row.hides = subst (λ t. IsMovedIn old new t name row.hides) tagged moved in
    let two : IsMovedIn old new (is_tag row.declared.kind) row.declared.name row.hides = subst (λ n. IsMovedIn old new (is_tag row.declared.kind) n row.hides) named one in
    popped (reverse rows) row old new (subst (λ l. IsIndexed l old) (turned_onto was rows row is) indexed) two

pub row_has_room : (was rows : List Row) (row : Row) (spaces : NameSpaces) (tag : Bool) (name : List ℕ) → was ≡ rows ++ row ∷ [] → IsIndexed (reverse was) spaces → tag ≡ is_tag row.declared.kind → name ≡ row.declared.name → has_room_in spaces tag name ≡ true
row_has_room was rows row spaces tag name is indexed tagged named =
    ap (λ t. has_room_in spaces t name) tagged ∙ ap (has_room_in spaces (is_tag row.declared.kind)) named
    ∙ top_has_room (reverse rows) row spaces (subst (λ l. IsIndexed l spaces) (turned_onto was rows row is) indexed)
