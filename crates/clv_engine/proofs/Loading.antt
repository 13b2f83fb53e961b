-- Loading the buffers of a launch, one after another.
use Rattle.std.proofs.Common.{◌≡◌, ℕ, ◌+◌, ◌≤◌, ◌<◌, List, [], ◌∷◌, ◌++◌, length, take, get_or, IsTrue, Some, None, refl, sym, ap, ◌∙◌, subst, arith, slice_get}
use Rattle.std.specs.Prelude.{All, IsUtf8}
use Rattle.std.proofs.lemmas.List.{take_more}
use Rattle.std.proofs.lemmas.Option.{slice_get_read}
use Rattle.clv_io.specs.Files.{FilesState, IsTooLarge}
use Rattle.clv_engine.specs.declared.load.Loaded.{Loaded}
use Rattle.clv_engine.specs.declared.load.Loaded.TheVariants.{Held, TooLarge, Absent}
use Rattle.clv_engine.specs.declared.load.Buffers.TheVariants as buffers
use Rattle.clv_engine.specs.Command.{IsText, IsUnchanged, NotLoaded}
use Rattle.clv_engine.specs.RunCommand.{HoldBuffers}
use Rattle.clv_engine.specs.RunSteps.{Since, LoadsAs, LoadAnswers, BuffersLoad}
use Rattle.clv_engine.proofs.TopSteps.{kind_both, told_later, steady_later, rose_later}

pub unchanged_first : (a : FilesState) → IsUnchanged a a
unchanged_first a = record { kind = record { tells = refl; is_steady = refl; room = λ name. refl; later = omega arith }; same = λ t name. refl }

pub unchanged_then : (a b c : FilesState) → IsUnchanged a b → IsUnchanged b c → IsUnchanged a c
unchanged_then a b c u v = record { kind = kind_both a b c u.kind v.kind; same = λ t name. v.same (told_later a b u.kind t) name ∙ u.same t name }

-- what was found later was there before
pub text_before : (a b : FilesState) (name text : List ℕ) → IsUnchanged a b → IsText b name text → IsText a name text
text_before a b name text u i t = sym (u.same t name) ∙ i (told_later a b u.kind t)

absent_steady : (a b : FilesState) (name : List ℕ) → Since a b → (IsTrue b.is_steady → b.held name ≡ None) → IsTrue a.is_steady → a.held name ≡ None
absent_steady a b name u absent s = sym (u.same.same (u.tells s) name) ∙ absent (steady_later a b u.same.kind s)

pub absent_before : (a b c : FilesState) (name : List ℕ) → Since a b → NotLoaded b c name → NotLoaded a c name
absent_before a b c name u n = record {
  rose = (let later = u.same.kind.later in rose_later a.faults b.faults c.faults later n.rose);
  absent = absent_steady a b name u n.absent;
  files = unchanged_then a b c u.same n.files;
}

pub large_before : (a b : FilesState) (name : List ℕ) (max seen : ℕ) → IsUnchanged a b → IsTooLarge b name max seen → IsTooLarge a name max seen
large_before a b name max seen u l = record { over = l.over; there = λ t. (let x = l.there (told_later a b u.kind t) in (x.0, sym (u.same t name) ∙ x.1, x.2)) }

-- ---- the buffers so far

pub HoldBuffers-push : (old : FilesState) (names bs : List (List ℕ)) (name b : List ℕ) → HoldBuffers old names bs → IsText old name b → length b ≤ 16777216 → HoldBuffers old (names ++ name ∷ []) (bs ++ b ∷ [])
HoldBuffers-push old [] [] name b h t s = (t, s, tt)
HoldBuffers-push old [] (c ∷ bs) name b h t s = absurd h
HoldBuffers-push old (n ∷ names) [] name b h t s = absurd h
HoldBuffers-push old (n ∷ names) (c ∷ bs) name b h t s = (h.0, h.1, HoldBuffers-push old names bs name b h.2 t s)

pub HoldBuffers-length : (old : FilesState) (names bs : List (List ℕ)) → HoldBuffers old names bs → length bs ≡ length names
HoldBuffers-length old [] [] h = refl
HoldBuffers-length old [] (b ∷ bs) h = absurd h
HoldBuffers-length old (n ∷ names) [] h = absurd h
HoldBuffers-length old (n ∷ names) (b ∷ bs) h = let e = HoldBuffers-length old names bs h.2 in omega (arith, e)

-- The first names' buffers are loaded, and no file has changed.
pub record LoadedSoFar (old now : FilesState) (names bs : List (List ℕ)) (i at : ℕ) : Type 0 where
  pub same : IsUnchanged old now
  pub held : HoldBuffers old (take i names) bs
  pub count : at ≡ i

-- the name of a number, which is UTF-8
pub utf8_at : (names : List (List ℕ)) (at : ℕ) (name : List ℕ) → All IsUtf8 names → at < length names → name ≡ get_or names at name → IsUtf8 name
utf8_at names at name h low e = subst IsUtf8 (sym e) (h at name low)

pub none_loaded : (a : FilesState) (names bs : List (List ℕ)) → bs ≡ [] → LoadedSoFar a a names bs 0 0
none_loaded a names bs e = subst (λ xs. LoadedSoFar a a names xs 0 0) (sym e) (record { same = unchanged_first a; held = tt; count = refl })

-- what the load of the next name has answered
pub record IsLoad (old mid new : FilesState) (names bs : List (List ℕ)) (i at : ℕ) (name : List ℕ) (l : Loaded) : Type 0 where
  pub before : LoadedSoFar old mid names bs i at
  pub low : i < length names
  pub name_is : name ≡ get_or names i name
  pub loads : LoadsAs mid new name 16777216 l

pub is_load : (old mid new : FilesState) (names bs : List (List ℕ)) (i at : ℕ) (name shown : List ℕ) (l : Loaded) → LoadedSoFar old mid names bs i at → i < length names → name ≡ get_or names i name → shown ≡ name → LoadsAs mid new shown 16777216 l → IsLoad old mid new names bs i at name l
is_load old mid new names bs i at name shown l before low e f h = record { before = before; low = low; name_is = e; loads = subst (λ n. LoadsAs mid new n 16777216 l) f h }

named_at : (old mid new : FilesState) (names bs : List (List ℕ)) (i at : ℕ) (name : List ℕ) (l : Loaded) → IsLoad old mid new names bs i at name l → slice_get names at ≡ Some name
named_at old mid new names bs i at name l s = (let low = s.low in subst (λ n. slice_get names n ≡ Some name) (sym s.before.count) (slice_get_read names (length names) i name refl low s.name_is))

held_at : (old mid new : FilesState) (names bs : List (List ℕ)) (i at : ℕ) (name : List ℕ) (l : Loaded) → IsLoad old mid new names bs i at name l → HoldBuffers old (take at names) bs
held_at old mid new names bs i at name l s = subst (λ n. HoldBuffers old (take n names) bs) (sym s.before.count) s.before.held

pub buffers_large : (old mid new : FilesState) (names bs : List (List ℕ)) (i at : ℕ) (name : List ℕ) (l : Loaded) → IsLoad old mid new names bs i at name l → l ≡ TooLarge → BuffersLoad old new names (buffers.TooLarge at)
buffers_large old mid new names bs i at name l s e =
    let x : LoadAnswers mid new name 16777216 TooLarge = subst (LoadAnswers mid new name 16777216) e s.loads.answers in
    record {
      same = unchanged_then old mid new s.before.same s.loads.same;
      answers = (name, x.0, named_at old mid new names bs i at name l s, large_before old mid name 16777216 x.0 s.before.same x.1, bs, held_at old mid new names bs i at name l s);
    }

pub buffers_absent : (old mid new : FilesState) (names bs : List (List ℕ)) (i at : ℕ) (name : List ℕ) (l : Loaded) → (IsTrue old.is_steady → IsTrue old.tells) → IsLoad old mid new names bs i at name l → l ≡ Absent → BuffersLoad old new names (buffers.Absent at)
buffers_absent old mid new names bs i at name l tells s e =
    let x : LoadAnswers mid new name 16777216 Absent = subst (LoadAnswers mid new name 16777216) e s.loads.answers in
    record {
      same = unchanged_then old mid new s.before.same s.loads.same;
      answers = (name, named_at old mid new names bs i at name l s, absent_before old mid new name (record { same = s.before.same; tells = tells }) x, bs, held_at old mid new names bs i at name l s);
    }

pub more_loaded : (old mid new : FilesState) (names bs pushed : List (List ℕ)) (i at : ℕ) (name : List ℕ) (l : Loaded) (b : List ℕ) → IsLoad old mid new names bs i at name l → l ≡ Held b → pushed ≡ bs ++ b ∷ [] → LoadedSoFar old new names pushed (i + 1) (at + 1)
more_loaded old mid new names bs pushed i at name l b s e p =
    let x : LoadAnswers mid new name 16777216 (Held b) = subst (LoadAnswers mid new name 16777216) e s.loads.answers in
    let low = s.low in
    let here = HoldBuffers-push old (take i names) bs name b s.before.held (text_before old mid name b s.before.same x.0) x.1 in
    let taken : take (i + 1) names ≡ take i names ++ name ∷ [] = take_more names i name low ∙ ap (λ (n : List ℕ). take i names ++ n ∷ []) (sym s.name_is) in
    record {
      same = unchanged_then old mid new s.before.same s.loads.same;
      held = subst (λ xs. HoldBuffers old (take (i + 1) names) xs) (sym p) (subst (λ xs. HoldBuffers old xs (bs ++ b ∷ [])) (sym taken) here);
      count = (let c = s.before.count in omega (arith, c));
    }
