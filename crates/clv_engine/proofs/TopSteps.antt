-- From what files and a sink answer to what the top call answers.
use Rattle.std.proofs.Common.{◌≡◌, ℕ, ◌*◌, ◌/◌, ◌≤◌, inl, inr, IsTrue, List, length, Result, Ok, Err, IfOk, refl, sym, ap, ◌∙◌, subst, arith}
use Rattle.clv_place.specs.declared.stop.Offence.{Offence}
use Rattle.clv_io.specs.declared.files.LoadFault.{LoadFault}
use Rattle.clv_io.specs.declared.files.LoadFault.TheVariants.{Failed, TooLarge}
use Rattle.clv_io.specs.declared.files.StoreFault.{StoreFault}
use Rattle.clv_io.specs.declared.sink.SinkFault.{SinkFault}
use Rattle.spv_module.specs.Words.{module_words}
use Rattle.spv_module.proofs.Lengths.{length-little_endian}
use Rattle.clv_io.specs.Faults.{Rose}
use Rattle.clv_io.specs.Files.{FilesState, IsSameKind, HoldsTheSame, Lacks, IsCutShort, Loads, Stores}
use Rattle.clv_io.specs.Sink.{SinkState, Puts}
use Rattle.clv_engine.specs.FirstForm.{IsOut}
use Rattle.clv_engine.specs.Command.{module_text, source_text, file_text, IsCompiled, IsUnchanged, HoldsNow, HoldsCut, CompileComesTo, compiled, refused, not_loaded, not_stored, StoreEnds, is_stored, is_cut, starved, memory_text, Command, Compile, Run}
use Rattle.clv_engine.specs.RunCommand.{starved as run_starved}
use Rattle.clv_engine.specs.TopCall.{CommandComesTo, ComesTo, Prints, Answers}

pub store_ok : (old new : FilesState) (name bytes : List ℕ) (status : ℕ) (text : List ℕ) → Stores old new name bytes (Ok tt) → status ≡ 0 → text ≡ module_text (length bytes / 4) → StoreEnds old new name bytes status text
store_ok old new name bytes status text s e f = is_stored e f (record { kind = s.kind; stored = s.stored; others = s.others })

pub store_err : (old new : FilesState) (name bytes : List ℕ) (fault : StoreFault) (status : ℕ) (text : List ℕ) → Stores old new name bytes (Err fault) → status ≡ 3 → text ≡ file_text name → StoreEnds old new name bytes status text
store_err old new name bytes fault status text s e f = is_cut e f s.failed s.full (record { kind = s.kind; cut = s.partial; others = s.others })

pub ruleset store_steps = (store_ok, store_err)

comes_at : (source target : List ℕ) (old new : FilesState) (s s' : ℕ) (t t' : List ℕ) → CompileComesTo source target old new s t → s' ≡ s → t' ≡ t → CompileComesTo source target old new s' t'
comes_at source target old new s s' t t' c e f = subst (λ n. CompileComesTo source target old new n t') (sym e) (subst (CompileComesTo source target old new s) (sym f) c)

pub load_failed : (old new : FilesState) (source target : List ℕ) (max status : ℕ) (text : List ℕ) → Loads old new source max (Err Failed) → status ≡ 3 → text ≡ file_text source → CompileComesTo source target old new status text
load_failed old new source target max status text l e f = comes_at source target old new 3 status _ text (not_loaded (record { rose = l.failed refl; absent = λ s. l.absent s refl; files = record { kind = l.kind; same = l.same } })) e f

pub load_large : (old new : FilesState) (source target : List ℕ) (seen status : ℕ) (text : List ℕ) (o : Offence) → Loads old new source 1048576 (Err (TooLarge seen)) → o.code ≡ 105 → o.place.line ≡ 1 → o.place.col ≡ 1 → status ≡ 1 → text ≡ source_text o → CompileComesTo source target old new status text
load_large old new source target seen status text o l c r q e f = comes_at source target old new 1 status _ text (refused o (record { cause = inr (record { seen = seen; large = l.too_large seen refl; code = c; line = r; col = q }); files = record { kind = l.kind; same = l.same } })) e f

pub load_refused : (old new : FilesState) (source target bytes : List ℕ) (max status : ℕ) (text : List ℕ) (o : Offence) → Loads old new source max (Ok bytes) → IsOut bytes o → status ≡ 1 → text ≡ source_text o → CompileComesTo source target old new status text
load_refused old new source target bytes max status text o l out e f = comes_at source target old new 1 status _ text (refused o (record { cause = inl (bytes, record { read = l.whole; is_out = out }); files = record { kind = l.kind; same = l.same } })) e f

pub load_starved : (old new : FilesState) (source : List ℕ) (max : ℕ) (r : Result (List ℕ) LoadFault) → Loads old new source max r → IsUnchanged old new
load_starved old new source max r l = record { kind = l.kind; same = l.same }

-- a count that rose later has risen
pub rose_later : (a b c : ℕ) → a ≤ b → Rose b c → Rose a c
rose_later a b c low r = omega arith

-- what held before a load holds after it
pub same_room : (old new : FilesState) (source name : List ℕ) (n : ℕ) → IsSameKind old new → Lacks (new.room name) n → Lacks (old.room name) n
same_room old new source name n k l = subst (λ r. Lacks r n) (k.room name) l

pub kind_both : (a b c : FilesState) → IsSameKind a b → IsSameKind b c → IsSameKind a c
kind_both a b c k l = record {
  tells = l.tells ∙ k.tells;
  is_steady = l.is_steady ∙ k.is_steady;
  room = λ name. l.room name ∙ k.room name;
  later = let p = k.later in let q = l.later in omega (arith, p, q);
}

pub told_later : (a b : FilesState) → IsSameKind a b → IsTrue a.tells → IsTrue b.tells
told_later a b k t = subst IsTrue (sym k.tells) t

pub steady_later : (a b : FilesState) → IsSameKind a b → IsTrue a.is_steady → IsTrue b.is_steady
steady_later a b k t = subst IsTrue (sym k.is_steady) t

holds_later : (a b c : FilesState) (name bytes : List ℕ) → IsSameKind a b → HoldsTheSame a b → HoldsNow b c name bytes → HoldsNow a c name bytes
holds_later a b c name bytes k same h = record {
  kind = kind_both a b c k h.kind;
  stored = λ t. h.stored (told_later a b k t);
  others = λ t other d. h.others (told_later a b k t) other d ∙ same t other;
}

pub cut_either : (a b c : FilesState) (name bytes : List ℕ) → b.held name ≡ a.held name → IsCutShort b c name bytes → IsCutShort a c name bytes
cut_either a b c name bytes e (inl h) = inl (h ∙ e)
cut_either a b c name bytes e (inr h) = inr h

cut_later : (a b c : FilesState) (name bytes : List ℕ) → IsSameKind a b → HoldsTheSame a b → HoldsCut b c name bytes → HoldsCut a c name bytes
cut_later a b c name bytes k same h = record {
  kind = kind_both a b c k h.kind;
  cut = λ t. cut_either a b c name bytes (same t name) (h.cut (told_later a b k t));
  others = λ t other d. h.others (told_later a b k t) other d ∙ same t other;
}

-- four bytes a word
four_a_word : (text bytes : List ℕ) → IsCompiled text bytes → 4 * (length bytes / 4) ≡ length bytes
four_a_word text bytes c = let e = ap length c.spells.1 ∙ length-little_endian (module_words c.made) in omega (arith, e)

pub load_stored : (old mid new : FilesState) (source target text bytes : List ℕ) (max status : ℕ) (out : List ℕ) → Loads old mid source max (Ok text) → IsCompiled text bytes → StoreEnds mid new target bytes status out → CompileComesTo source target old new status out
load_stored old mid new source target text bytes max status out l c (is_stored e f h) =
    comes_at source target old new 0 status _ out (compiled (length bytes / 4) (record { text = text; bytes = bytes; read = l.whole; compiled = c; four_a_word = four_a_word text bytes c; files = holds_later old mid new target bytes l.kind l.same h })) e f
load_stored old mid new source target text bytes max status out l c (is_cut e f rose full h) =
    let later = l.kind.later in
    comes_at source target old new 3 status _ out (not_stored (record {
      text = text;
      bytes = bytes;
      read = l.whole;
      compiled = c;
      rose = rose_later old.faults mid.faults new.faults later rose;
      full = λ s. same_room old mid source target (length bytes) l.kind (full (steady_later old mid l.kind s));
      files = cut_later old mid new target bytes l.kind l.same h;
    })) e f

-- the same where the text and the bytes are lent
pub lent_stored : (old mid new : FilesState) (source target text lent bytes slice : List ℕ) (max status : ℕ) (out : List ℕ) → Loads old mid source max (Ok text) → lent ≡ text → IsCompiled lent bytes → slice ≡ bytes → StoreEnds mid new target slice status out → CompileComesTo source target old new status out
lent_stored old mid new source target text lent bytes slice max status out l e c f h = load_stored old mid new source target text bytes max status out l (subst (λ t. IsCompiled t bytes) e c) (subst (λ b. StoreEnds mid new target b status out) f h)

pub if_ok : {A E : Type 0} (r : Result A E) (P Q : A → Type 0) → ((a : A) → P a → Q a) → IfOk r P → IfOk r Q
if_ok (Ok a) P Q f h = f a h
if_ok (Err e) P Q f h = tt

pub load_unchanged : (old mid new : FilesState) (source : List ℕ) (max : ℕ) (r : Result (List ℕ) LoadFault) → Loads old mid source max r → new ≡ mid → IsUnchanged old new
load_unchanged old mid new source max r l e = subst (IsUnchanged old) (sym e) (record { kind = l.kind; same = l.same })

pub ruleset file_steps = (load_failed, load_large, load_refused, load_starved, load_stored, load_unchanged)

pub put_ok : (old new : SinkState) (text : List ℕ) (status : ℕ) → Puts old new text (Ok tt) → Prints old new status text status
put_ok old new text status p = inl (refl, record { tells = p.tells; is_steady = p.is_steady; gained = p.all })

pub put_err : (old new : SinkState) (text : List ℕ) (status : ℕ) (fault : SinkFault) → Puts old new text (Err fault) → Prints old new status text 9
put_err old new text status fault p = inr (refl, record { rose = p.failed; front = p.partial; full = p.full })

pub ruleset print_steps = (put_ok, put_err)

-- what came is answered
pub answers : (words : List (List ℕ)) (files files2 : FilesState) (sink sink2 : SinkState) (status answer : ℕ) (text : List ℕ) → ComesTo words files files2 status text → Prints sink sink2 status text answer → Answers words files files2 sink sink2 answer
answers words files files2 sink sink2 status answer text c p = record { status = status; text = text; comes = c; printed = p }

-- want of memory, whatever the command
pub starved_comes : (c : Command) (old new : FilesState) → IsUnchanged old new → CommandComesTo c old new 4 memory_text
starved_comes (Compile source target) old new u = starved u
starved_comes (Run source launch) old new u = run_starved u

-- the same text by another name
pub prints_text : (old new : SinkState) (status : ℕ) (text text2 : List ℕ) (answer : ℕ) → text ≡ text2 → Prints old new status text answer → Prints old new status text2 answer
prints_text old new status text text2 answer e p = subst (λ t. Prints old new status t answer) e p
