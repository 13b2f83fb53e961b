-- Storing the marked buffers, one after another.
use Rattle.std.proofs.Common.{◌≡◌, ◌⊎◌, inl, inr, ℕ, zero, suc, ◌+◌, ◌≤◌, ◌<◌, Bool, true, false, List, [], ◌∷◌, ◌++◌, length, Some, None, Result, Ok, Err, refl, sym, ap, ◌∙◌, subst, arith, get_or, slice_get, Contains, length-append}
use Rattle.std.specs.Prelude.{string_bytes}
use Rattle.std.specs.Result.{is_err}
use Rattle.std.proofs.lemmas.List.Elements.{Contains-push, Contains-append_left, Contains-push_cases}
use Rattle.std.proofs.lemmas.Option.{slice_get_within, slice_get-get_or, slice_get_read}
use Rattle.launch_text.specs.Readable.{AreDistinct}
use Rattle.clv_io.specs.declared.files.StoreFault.{StoreFault}
use Rattle.clv_io.specs.Files.{FilesState, Stores}
use Rattle.clv_engine.specs.declared.report.Report.{Report}
use Rattle.clv_engine.specs.Command.{IsUnchanged, file_text}
use Rattle.clv_engine.specs.RunCommand.{HoldsStores, HoldsStoresCut}
use Rattle.clv_engine.specs.RunSteps.{stores_of, StoresCut, AreReports, StoresComeTo, one_failed}
use Rattle.clv_engine.proofs.Loading.{unchanged_first}
use Rattle.clv_engine.proofs.TopSteps.{kind_both, told_later, steady_later, rose_later, same_room, cut_either}

abbrev Named : Type 0
Named = List ℕ × List ℕ

-- what is stored of the first so many buffers
abbrev pub first_stores : ℕ → List (List ℕ) → List (List ℕ) → List Bool → List (List ℕ × List ℕ)
first_stores zero names bs ms = []
first_stores (suc n) (name ∷ names) (b ∷ bs) (true ∷ ms) = (name, b) ∷ first_stores n names bs ms
first_stores (suc n) (name ∷ names) (b ∷ bs) (false ∷ ms) = first_stores n names bs ms
first_stores (suc n) _ _ _ = []

pub all_first : (n : ℕ) (names bs : List (List ℕ)) (ms : List Bool) → length names ≤ n → first_stores n names bs ms ≡ stores_of names bs ms
all_first zero [] bs ms h = refl
all_first zero (x ∷ names) bs ms h = absurd (omega (arith, h))
all_first (suc n) [] bs ms h = refl
all_first (suc n) (x ∷ names) [] ms h = refl
all_first (suc n) (x ∷ names) (b ∷ bs) [] h = refl
all_first (suc n) (x ∷ names) (b ∷ bs) (true ∷ ms) h = ap (λ (s : List Named). (x, b) ∷ s) (all_first n names bs ms (omega (arith, h)))
all_first (suc n) (x ∷ names) (b ∷ bs) (false ∷ ms) h = all_first n names bs ms (omega (arith, h))

none_some : {A : Type 0} (a : A) → None ≡ Some a → ⊥
none_some a h = cc

-- one more buffer, by its number
record At (n : ℕ) (names bs : List (List ℕ)) (ms : List Bool) (name b : List ℕ) (m : Bool) : Type 0 where
  named : slice_get names n ≡ Some name
  there : slice_get bs n ≡ Some b
  mark : slice_get ms n ≡ Some m

next_stored : (n : ℕ) (names bs : List (List ℕ)) (ms : List Bool) (name b : List ℕ) → At n names bs ms name b true → first_stores (suc n) names bs ms ≡ first_stores n names bs ms ++ (name, b) ∷ []
next_stored n [] bs ms name b h = absurd (none_some name h.named)
next_stored n (x ∷ names) [] ms name b h = absurd (none_some b h.there)
next_stored n (x ∷ names) (c ∷ bs) [] name b h = absurd (none_some true h.mark)
next_stored zero (x ∷ names) (c ∷ bs) (true ∷ ms) name b h = let e = h.named in let f = h.there in let p : x ≡ name = cc in let q : c ≡ b = cc in cc
next_stored zero (x ∷ names) (c ∷ bs) (false ∷ ms) name b h = absurd (let e = h.mark in let p : false ≡ true = cc in cc)
next_stored (suc n) (x ∷ names) (c ∷ bs) (true ∷ ms) name b h = ap (λ (s : List Named). (x, c) ∷ s) (next_stored n names bs ms name b (record { named = h.named; there = h.there; mark = h.mark }))
next_stored (suc n) (x ∷ names) (c ∷ bs) (false ∷ ms) name b h = next_stored n names bs ms name b (record { named = h.named; there = h.there; mark = h.mark })

next_left : (n : ℕ) (names bs : List (List ℕ)) (ms : List Bool) (name b : List ℕ) → At n names bs ms name b false → first_stores (suc n) names bs ms ≡ first_stores n names bs ms
next_left n [] bs ms name b h = absurd (none_some name h.named)
next_left n (x ∷ names) [] ms name b h = absurd (none_some b h.there)
next_left n (x ∷ names) (c ∷ bs) [] name b h = absurd (none_some false h.mark)
next_left zero (x ∷ names) (c ∷ bs) (true ∷ ms) name b h = absurd (let e = h.mark in let p : true ≡ false = cc in cc)
next_left zero (x ∷ names) (c ∷ bs) (false ∷ ms) name b h = refl
next_left (suc n) (x ∷ names) (c ∷ bs) (true ∷ ms) name b h = ap (λ (s : List Named). (x, c) ∷ s) (next_left n names bs ms name b (record { named = h.named; there = h.there; mark = h.mark }))
next_left (suc n) (x ∷ names) (c ∷ bs) (false ∷ ms) name b h = next_left n names bs ms name b (record { named = h.named; there = h.there; mark = h.mark })

-- what is stored is the first of it, the next, and what is behind
record Splits (stores before : List (List ℕ × List ℕ)) (name b : List ℕ) : Type 0 where
  behind : List (List ℕ × List ℕ)
  split : stores ≡ before ++ (name, b) ∷ behind

split_at : (n : ℕ) (names bs : List (List ℕ)) (ms : List Bool) (name b : List ℕ) → At n names bs ms name b true → Splits (stores_of names bs ms) (first_stores n names bs ms) name b
split_at n [] bs ms name b h = absurd (none_some name h.named)
split_at n (x ∷ names) [] ms name b h = absurd (none_some b h.there)
split_at n (x ∷ names) (c ∷ bs) [] name b h = absurd (none_some true h.mark)
split_at zero (x ∷ names) (c ∷ bs) (true ∷ ms) name b h = record { behind = stores_of names bs ms; split = (let e = h.named in let f = h.there in let p : x ≡ name = cc in let q : c ≡ b = cc in cc) }
split_at zero (x ∷ names) (c ∷ bs) (false ∷ ms) name b h = absurd (let e = h.mark in let p : false ≡ true = cc in cc)
split_at (suc n) (x ∷ names) (c ∷ bs) (true ∷ ms) name b h = (let s = split_at n names bs ms name b (record { named = h.named; there = h.there; mark = h.mark }) in record { behind = s.behind; split = ap (λ (z : List Named). (x, c) ∷ z) s.split })
split_at (suc n) (x ∷ names) (c ∷ bs) (false ∷ ms) name b h = (let s = split_at n names bs ms name b (record { named = h.named; there = h.there; mark = h.mark }) in record { behind = s.behind; split = s.split })

-- each that is stored has one of the first names
contains_at : {A : Type 0} (y : A) (ys : List A) (x : A) (k : ℕ) → k < length (y ∷ ys) → get_or (y ∷ ys) k x ≡ x → (y ≡ x) ⊎ Contains ys x
contains_at y ys x zero low e = inl e
contains_at y ys x (suc k) low e = inr (k, omega (arith, low), e)

contains_first : {A : Type 0} (y : A) (ys : List A) (x : A) → Contains (y ∷ ys) x → (y ≡ x) ⊎ Contains ys x
contains_first y ys x c = contains_at y ys x c.0 c.1 c.2

contains_none : {A : Type 0} (x : A) → Contains [] x → ⊥
contains_none x c = let h = c.1 in omega (arith, h)

record IsNamed (n : ℕ) (names : List (List ℕ)) (name : List ℕ) : Type 0 where
  place : ℕ
  low : place < n
  named : slice_get names place ≡ Some name

named_later : (n : ℕ) (x : List ℕ) (names : List (List ℕ)) (name : List ℕ) → IsNamed n names name → IsNamed (suc n) (x ∷ names) name
named_later n x names name i = record { place = suc i.place; low = (let low = i.low in omega (arith, low)); named = i.named }

first_named : (n : ℕ) (names bs : List (List ℕ)) (ms : List Bool) (name b : List ℕ) → Contains (first_stores n names bs ms) (name, b) → IsNamed n names name
first_named zero names bs ms name b c = absurd (contains_none _ c)
first_named (suc n) [] bs ms name b c = absurd (contains_none _ c)
first_named (suc n) (x ∷ names) [] ms name b c = absurd (contains_none _ c)
first_named (suc n) (x ∷ names) (d ∷ bs) [] name b c = absurd (contains_none _ c)
first_named (suc n) (x ∷ names) (d ∷ bs) (true ∷ ms) name b c = elim (contains_first (x, d) (first_stores n names bs ms) (name, b) c) [
  | inl e ↦ record { place = zero; low = omega arith; named = ap (λ (q : Named). Some q.0) e }
  | inr p ↦ named_later n x names name (first_named n names bs ms name b p)
]
first_named (suc n) (x ∷ names) (d ∷ bs) (false ∷ ms) name b c = named_later n x names name (first_named n names bs ms name b c)

new_name : (n : ℕ) (names bs : List (List ℕ)) (ms : List Bool) (name b : List ℕ) → AreDistinct names → slice_get names n ≡ Some name → Contains (first_stores n names bs ms) (name, b) → ⊥
new_name n names bs ms name b distinct named c =
    let i = first_named n names bs ms name b c in
    let e = distinct i.place n name i.named named in
    let low = i.low in
    omega (arith, e, low)

-- ---- what the files hold

pub holds_none : (a : FilesState) → HoldsStores a a []
holds_none a = record {
  kind = (unchanged_first a).kind;
  stored = λ t name bytes c. absurd (contains_none _ c);
  others = λ t name none. refl;
}

holds_more : (old mid new : FilesState) (stores : List (List ℕ × List ℕ)) (name bytes : List ℕ) → HoldsStores old mid stores → Stores mid new name bytes (Ok tt) → ((b : List ℕ) → Contains stores (name, b) → ⊥) → HoldsStores old new (stores ++ (name, bytes) ∷ [])
holds_more old mid new stores name bytes h s none = record {
  kind = kind_both old mid new h.kind s.kind;
  stored = λ t x c q. elim (Contains-push_cases stores (name, bytes) (x, c) q) [
    | inl p ↦ s.others (told_later old mid h.kind t) x (λ e. none c (subst (λ z. Contains stores (z, c)) e p)) ∙ h.stored t x c p
    | inr p ↦ ap new.held (sym (ap (λ (z : Named). z.0) p)) ∙ s.stored (told_later old mid h.kind t) ∙ ap (λ (z : Named). Some z.1) p
  ];
  others = λ t x apart. s.others (told_later old mid h.kind t) x (λ e. apart bytes (subst (λ z. Contains (stores ++ (name, bytes) ∷ []) (z, bytes)) (sym e) (Contains-push stores (name, bytes)))) ∙ h.others t x (λ b p. apart b (Contains-append_left stores ((name, bytes) ∷ []) (x, b) p));
}

pub stores_later : (old mid new : FilesState) (stores : List (List ℕ × List ℕ)) → IsUnchanged old mid → HoldsStores mid new stores → HoldsStores old new stores
stores_later old mid new stores u h = record {
  kind = kind_both old mid new u.kind h.kind;
  stored = λ t. h.stored (told_later old mid u.kind t);
  others = λ t name none. h.others (told_later old mid u.kind t) name none ∙ u.same t name;
}

pub cut_stores_later : (old mid new : FilesState) (before : List (List ℕ × List ℕ)) (name bytes : List ℕ) → IsUnchanged old mid → HoldsStoresCut mid new before name bytes → HoldsStoresCut old new before name bytes
cut_stores_later old mid new before name bytes u h = record {
  kind = kind_both old mid new u.kind h.kind;
  rose = (let later = u.kind.later in rose_later old.faults mid.faults new.faults later h.rose);
  full = λ s. same_room old mid [] name (length bytes) u.kind (h.full (steady_later old mid u.kind s));
  stored = λ t. h.stored (told_later old mid u.kind t);
  cut = λ t. cut_either old mid new name bytes (u.same t name) (h.cut (told_later old mid u.kind t));
  others = λ t other apart none. h.others (told_later old mid u.kind t) other apart none ∙ u.same t other;
}

-- ---- one store

-- A store of the next buffer, by what was read of the lists.
pub record IsStore (names bs : List (List ℕ)) (ms : List Bool) (at : ℕ) (name bytes : List ℕ) : Type 0 where
  pub distinct : AreDistinct names
  pub buffers : length bs ≡ length names
  pub marks : length ms ≡ length names
  pub low : at < length names
  pub mark : get_or ms at false ≡ true
  pub name_is : name ≡ get_or names at name
  pub bytes_are : bytes ≡ get_or bs at bytes

marked_at : (names bs : List (List ℕ)) (ms : List Bool) (at : ℕ) (name bytes : List ℕ) → IsStore names bs ms at name bytes → At at names bs ms name bytes true
marked_at names bs ms at name bytes i =
    let low = i.low in
    let e = i.buffers in
    let f = i.marks in
    record {
      named = slice_get_read names (length names) at name refl low i.name_is;
      there = slice_get_read bs (length names) at bytes (sym e) low i.bytes_are;
      mark = slice_get-get_or ms at false (omega (arith, low, f)) ∙ ap Some i.mark;
    }

one_more : (n : ℕ) → suc n ≡ n + 1
one_more n = omega arith

stored_ok : (old mid new : FilesState) (names bs : List (List ℕ)) (ms : List Bool) (at : ℕ) (name bytes : List ℕ) (r : Result Unit StoreFault) → IsStore names bs ms at name bytes → HoldsStores old mid (first_stores at names bs ms) → Stores mid new name bytes r → is_err r ≡ false → HoldsStores old new (first_stores (at + 1) names bs ms)
stored_ok old mid new names bs ms at name bytes (Ok u) i h s e =
    let place = marked_at names bs ms at name bytes i in
    let more = holds_more old mid new (first_stores at names bs ms) name bytes h s (λ b. new_name at names bs ms name b i.distinct place.named) in
    subst (λ n. HoldsStores old new (first_stores n names bs ms)) (one_more at) (subst (HoldsStores old new) (sym (next_stored at names bs ms name bytes place)) more)
stored_ok old mid new names bs ms at name bytes (Err f) i h s e = absurd (let p : true ≡ false = e in cc)

pub stored_next : (old mid new now : FilesState) (names bs : List (List ℕ)) (ms : List Bool) (at : ℕ) (name bytes shown lent : List ℕ) (r : Result Unit StoreFault) → now ≡ new → IsStore names bs ms at name bytes → HoldsStores old mid (first_stores at names bs ms) → shown ≡ name → lent ≡ bytes → Stores mid new shown lent r → is_err r ≡ false → HoldsStores old now (first_stores (at + 1) names bs ms)
stored_next old mid new now names bs ms at name bytes shown lent r same i h e f s ok =
    let by_name = subst (λ n. Stores mid new n lent r) e s in
    let by_both = subst (λ b. Stores mid new name b r) f by_name in
    subst (λ z. HoldsStores old z (first_stores (at + 1) names bs ms)) (sym same) (stored_ok old mid new names bs ms at name bytes r i h by_both ok)

pub left_next : (old mid now : FilesState) (names bs : List (List ℕ)) (ms : List Bool) (at : ℕ) → now ≡ mid → length bs ≡ length names → length ms ≡ length names → at < length names → get_or ms at false ≡ false → HoldsStores old mid (first_stores at names bs ms) → HoldsStores old now (first_stores (at + 1) names bs ms)
left_next old mid now names bs ms at same e f low mark h =
    let place : At at names bs ms (get_or names at []) (get_or bs at []) false = record {
      named = slice_get-get_or names at [] low;
      there = slice_get-get_or bs at [] (omega (arith, low, e));
      mark = slice_get-get_or ms at false (omega (arith, low, f)) ∙ ap Some mark;
    } in
    let still = subst (HoldsStores old mid) (sym (next_left at names bs ms _ _ place)) h in
    subst (λ z. HoldsStores old z (first_stores (at + 1) names bs ms)) (sym same) (subst (λ n. HoldsStores old mid (first_stores n names bs ms)) (one_more at) still)

cut_err : (old mid new : FilesState) (names bs : List (List ℕ)) (ms : List Bool) (at : ℕ) (name bytes : List ℕ) (r : Result Unit StoreFault) → IsStore names bs ms at name bytes → HoldsStores old mid (first_stores at names bs ms) → Stores mid new name bytes r → is_err r ≡ true → StoresCut old new names (stores_of names bs ms) at
cut_err old mid new names bs ms at name bytes (Ok u) i h s e = absurd (let p : false ≡ true = e in cc)
cut_err old mid new names bs ms at name bytes (Err f) i h s e =
    let place = marked_at names bs ms at name bytes i in
    let parts = split_at at names bs ms name bytes place in
    let none = λ (b : List ℕ). new_name at names bs ms name b i.distinct place.named in
    record {
      before = first_stores at names bs ms;
      behind = parts.behind;
      name = name;
      bytes = bytes;
      named = place.named;
      split = parts.split;
      holds = record {
        kind = kind_both old mid new h.kind s.kind;
        rose = (let later = h.kind.later in rose_later old.faults mid.faults new.faults later s.failed);
        full = λ t. same_room old mid [] name (length bytes) h.kind (s.full (steady_later old mid h.kind t));
        stored = λ t other content c. s.others (told_later old mid h.kind t) other (λ q. none content (subst (λ z. Contains (first_stores at names bs ms) (z, content)) q c)) ∙ h.stored t other content c;
        cut = λ t. cut_either old mid new name bytes (h.others t name none) (s.partial (told_later old mid h.kind t));
        others = λ t other apart none_before. s.others (told_later old mid h.kind t) other apart ∙ h.others t other none_before;
      };
    }

pub stored_cut : (old mid new : FilesState) (names bs : List (List ℕ)) (ms : List Bool) (at : ℕ) (name bytes shown lent : List ℕ) (r : Result Unit StoreFault) → IsStore names bs ms at name bytes → HoldsStores old mid (first_stores at names bs ms) → shown ≡ name → lent ≡ bytes → Stores mid new shown lent r → is_err r ≡ true → StoresCut old new names (stores_of names bs ms) at
stored_cut old mid new names bs ms at name bytes shown lent r i h e f s err =
    let by_name = subst (λ n. Stores mid new n lent r) e s in
    cut_err old mid new names bs ms at name bytes r i h (subst (λ b. Stores mid new name b r) f by_name) err

pub all_stores : (old now : FilesState) (names bs : List (List ℕ)) (ms : List Bool) (at : ℕ) → length names ≤ at → HoldsStores old now (first_stores at names bs ms) → HoldsStores old now (stores_of names bs ms)
all_stores old now names bs ms at h s = subst (HoldsStores old now) (all_first at names bs ms h) s

-- ---- reports

pub record IsReportOf (name : List ℕ) (r : Report) : Type 0 where
  pub status : r.status ≡ 3
  pub text : string_bytes r.text ≡ file_text name

-- The first names have their reports.
pub record ReportedSoFar (names : List (List ℕ)) (reports : List Report) (i : ℕ) : Type 0 where
  pub count : length reports ≡ i
  pub each : (at : ℕ) (name : List ℕ) (r : Report) → slice_get names at ≡ Some name → slice_get reports at ≡ Some r → IsReportOf name r

no_report : (r : Report) → None ≡ Some r → ⊥
no_report r h = cc

pub none_reported : (names : List (List ℕ)) (reports : List Report) → reports ≡ [] → ReportedSoFar names reports 0
none_reported names reports e = subst (λ (rs : List Report). ReportedSoFar names rs 0) (sym e) (record { count = refl; each = λ at name r h g. absurd (no_report r g) })

get_push : {A : Type 0} (xs : List A) (x : A) (m : ℕ) (a : A) → slice_get (xs ++ x ∷ []) m ≡ Some a → (slice_get xs m ≡ Some a) ⊎ ((m ≡ length xs) × (x ≡ a))
get_push [] x zero a h = inr (refl, (let e : x ≡ a = cc in e))
get_push [] x (suc m) a h = absurd (none_some a h)
get_push (y ∷ xs) x zero a h = inl h
get_push (y ∷ xs) x (suc m) a h = elim (get_push xs x m a h) [ inl p ↦ inl p | inr p ↦ inr ((let e = p.0 in omega (arith, e)), p.1) ]

same_some : {A : Type 0} (a b : A) → Some a ≡ Some b → a ≡ b
same_some a b e = cc

pub more_reported : (names : List (List ℕ)) (reports pushed : List Report) (i : ℕ) (name shown : List ℕ) (r : Report) → ReportedSoFar names reports i → i < length names → name ≡ get_or names i name → shown ≡ name → (r.status ≡ 3) × (string_bytes r.text ≡ file_text shown) → pushed ≡ reports ++ r ∷ [] → ReportedSoFar names pushed (i + 1)
more_reported names reports pushed i name shown r h low e f k p = subst (λ (rs : List Report). ReportedSoFar names rs (i + 1)) (sym p) (record {
  count = (let c = h.count in omega (arith, c, length-append reports (r ∷ [])));
  each = λ at other q named got. elim (get_push reports r at q got) [
    | inl g ↦ h.each at other q named g
    | inr g ↦ (
        let there = slice_get_read names (length names) i name refl low e in
        let place : i ≡ at = sym (g.0 ∙ h.count) in
        let same : name ≡ other = same_some name other (sym there ∙ ap (slice_get names) place ∙ named) in
        subst (IsReportOf other) g.1 (record { status = k.0; text = k.1 ∙ ap file_text (f ∙ same) })
        )
  ];
})

pub all_reported : (names : List (List ℕ)) (reports : List Report) (i : ℕ) → i ≤ length names → length names ≤ i → ReportedSoFar names reports i → AreReports names reports
all_reported names reports i low high h = record {
  count = (let c = h.count in omega (arith, c, low, high));
  each = λ at name r e g. (let k = h.each at name r e g in (k.status, k.text));
}

-- the report of the name whose store failed
pub failed_ends : (old new : FilesState) (names : List (List ℕ)) (stores : List (List ℕ × List ℕ)) (steps at : ℕ) (reports : List Report) (r : Report) → AreReports names reports → StoresCut old new names stores at → r ≡ get_or reports at r → StoresComeTo old new names stores steps r.status (string_bytes r.text)
failed_ends old new names stores steps at reports r a cut e =
    let low = slice_get_within names at cut.name cut.named in
    let c = a.count in
    let got = slice_get_read reports (length reports) at r refl (omega (arith, low, c)) e in
    let told = a.each at cut.name r cut.named got in
    one_failed at cut told.0 told.1
