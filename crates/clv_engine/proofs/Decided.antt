-- What the source holds decides the answer, where nothing outside fails.
use Rattle.std.proofs.Common.{◌≡◌, ℕ, ◌⊎◌, inl, inr, IsTrue, List, Some, refl, sym, ap, ◌∙◌, subst, [], ◌∷◌}
use Rattle.std.specs.Prelude.{codes}
use Rattle.clv_place.specs.declared.stop.Offence.{Offence}
use Rattle.clv_io.specs.Faults.{Rose}
use Rattle.clv_io.specs.Files.{FilesState}
use Rattle.clv_io.specs.Sink.{SinkState}
use Rattle.clv_engine.specs.declared.form.Kernel.{Kernel}
use Rattle.clv_engine.specs.FirstForm.{IsIn, IsOut, InOrOut}
use Rattle.clv_engine.specs.Command.{Command, Compile, Run, words_of, IsCommand, CompileComesTo, compiled, refused, not_loaded, not_stored, starved}
use Rattle.clv_engine.specs.TopCall.{CommandComesTo, ComesTo, comes, misused, Answers, Decides, RunDecides, IsDecided}
use Rattle.clv_engine.proofs.DecidedTexts.{text_is, over_out}
use Rattle.clv_engine.proofs.RunDecided.{RunGiven, run_decided}

-- one command of some words
abbrev first_word : List (List ℕ) → List ℕ
first_word [] = []
first_word (w ∷ ws) = w

pub same_command : (c d : Command) → words_of c ≡ words_of d → c ≡ d
same_command (Compile source target) (Compile source2 target2) e = cc
same_command (Compile source target) (Run source2 launch) e = absurd (let h : codes "compile" ≡ codes "run" = ap first_word e in cc)
same_command (Run source launch) (Compile source2 target) e = absurd (let h : codes "run" ≡ codes "compile" = ap first_word e in cc)
same_command (Run source launch) (Run source2 launch2) e = cc

pub asked_command : (words : List (List ℕ)) (c d : Command) → IsCommand words c → IsCommand words d → d ≡ c
asked_command words c d i j = same_command d c (sym j.words_are ∙ i.words_are)

-- what is known of a call: what its source holds, and that no file has failed
pub record Given (files files2 : FilesState) (source text : List ℕ) : Type 0 where
  pub told : IsTrue files.tells
  pub held : files.held source ≡ Some text
  pub calm : Rose files.faults files2.faults → ⊥

in_gives : InOrOut → (files files2 : FilesState) (source target text : List ℕ) (k : Kernel) (status : ℕ) (out : List ℕ) → Given files files2 source text → IsIn text k → CompileComesTo source target files files2 status out → (status ≡ 0) ⊎ (status ≡ 4)
in_gives in_out files files2 source target text k _ _ g i (compiled n h) = inl refl
in_gives in_out files files2 source target text k _ _ g i (refused o h) =
    absurd (elim h.cause [
      | inl r ↦ in_out text k o i (subst (λ z. IsOut z o) (text_is files source text r.0 g.told g.held r.1.read) r.1.is_out)
      | inr v ↦ over_out files source text v.seen k g.told g.held v.large i
    ])
in_gives in_out files files2 source target text k _ _ g i (not_loaded h) = absurd (g.calm h.rose)
in_gives in_out files files2 source target text k _ _ g i (not_stored h) = absurd (g.calm h.rose)
in_gives in_out files files2 source target text k _ _ g i (starved h) = inr refl

out_gives : InOrOut → (files files2 : FilesState) (source target text : List ℕ) (o : Offence) (status : ℕ) (out : List ℕ) → Given files files2 source text → IsOut text o → CompileComesTo source target files files2 status out → (status ≡ 1) ⊎ (status ≡ 4)
out_gives in_out files files2 source target text o _ _ g u (compiled n h) =
    let same = text_is files source text h.text g.told g.held h.read in
    absurd (in_out text h.compiled.good.kernel o (subst (λ z. IsIn z h.compiled.good.kernel) same h.compiled.good.accepted) u)
out_gives in_out files files2 source target text o _ _ g u (refused p h) = inl refl
out_gives in_out files files2 source target text o _ _ g u (not_loaded h) = absurd (g.calm h.rose)
out_gives in_out files files2 source target text o _ _ g u (not_stored h) = absurd (g.calm h.rose)
out_gives in_out files files2 source target text o _ _ g u (starved h) = inr refl

-- what a call with the words of a command comes to
pub command_comes : (words : List (List ℕ)) (files files2 : FilesState) (c : Command) (status : ℕ) (out : List ℕ) → IsCommand words c → ComesTo words files files2 status out → CommandComesTo c files files2 status out
command_comes words files files2 c _ _ i (comes d status out j h) = subst (λ e. CommandComesTo e files files2 status out) (asked_command words c d i j) h
command_comes words files files2 c _ _ i (misused never same) = absurd (never c i)

pub at_answer : (answer status a b : ℕ) → answer ≡ status → (status ≡ a) ⊎ (status ≡ b) → (answer ≡ a) ⊎ (answer ≡ b)
at_answer answer status a b e (inl f) = inl (e ∙ f)
at_answer answer status a b e (inr f) = inr (e ∙ f)

decides : InOrOut → (words : List (List ℕ)) (files files2 : FilesState) (sink sink2 : SinkState) (answer : ℕ) (source target text : List ℕ) → Answers words files files2 sink sink2 answer → IsCommand words (Compile source target) → Given files files2 source text → (Rose sink.faults sink2.faults → ⊥) → Decides text answer
decides in_out words files files2 sink sink2 answer source target text a c g quiet = elim a.printed [
  | inl p ↦ (let h = command_comes words files files2 (Compile source target) a.status a.text c a.comes in record {
    accepted = λ k i. at_answer answer a.status 0 4 p.0 (in_gives in_out files files2 source target text k a.status a.text g i h);
    refused = λ o u. at_answer answer a.status 1 4 p.0 (out_gives in_out files files2 source target text o a.status a.text g u h);
  })
  | inr p ↦ absurd (quiet p.1.rose)
]

run_decides : InOrOut → (words : List (List ℕ)) (files files2 : FilesState) (sink sink2 : SinkState) (answer : ℕ) (source launch text said : List ℕ) → Answers words files files2 sink sink2 answer → IsCommand words (Run source launch) → RunGiven files files2 source launch text said → (Rose sink.faults sink2.faults → ⊥) → RunDecides files text said answer
run_decides in_out words files files2 sink sink2 answer source launch text said a c g quiet = elim a.printed [
  | inl p ↦ run_decided in_out files files2 source launch text said a.status answer a.text p.0 g (command_comes words files files2 (Run source launch) a.status a.text c a.comes)
  | inr p ↦ absurd (quiet p.1.rose)
]

pub decided : InOrOut → (words : List (List ℕ)) (files files2 : FilesState) (sink sink2 : SinkState) (answer : ℕ) → Answers words files files2 sink sink2 answer → IsDecided words files files2 sink sink2 answer
decided in_out words files files2 sink sink2 answer a = record {
  each = λ source target text c told held calm quiet. decides in_out words files files2 sink sink2 answer source target text a c (record { told = told; held = held; calm = calm }) quiet;
  each_run = λ source launch text said c told held there calm quiet. run_decides in_out words files files2 sink sink2 answer source launch text said a c (record { told = told; held = held; there = there; calm = calm }) quiet;
}
