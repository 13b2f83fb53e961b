-- A text is read line by line.
use Rattle.std.proofs.Common.{◌≡◌, ℕ, ◌+◌, ◌<◌, ◌≤◌, List, [], ◌∷◌, ◌++◌, length, Result, Ok, Err, refl, sym, ap, ◌∙◌, subst, length-append, true, arith}
use Rattle.std.specs.Bool.{◌==◌}
use Rattle.std.specs.Result.{IfOk, IfErr}
use Rattle.std.proofs.lemmas.Bool.{le-leb, lt-leb, eqb-true}
use Rattle.std.proofs.lemmas.List.{nil_from_length}
use Rattle.launch_text.specs.declared.draft.Draft.{Draft}
use Rattle.launch_text.specs.declared.launch.Launch.{Launch}
use Rattle.launch_text.specs.declared.launch.LaunchStop.{LaunchStop}
use Rattle.launch_text.specs.declared.said.LineStop.{LineStop}
use Rattle.launch_text.specs.declared.said.LineStop.TheVariants.{Broken, NoMemory}
use Rattle.launch_text.specs.declared.said.Said.{Said}
use Rattle.launch_text.specs.Answers.{Changes, stop_at}
use Rattle.launch_text.specs.Drafts.{line_taken, drafted}
use Rattle.launch_text.specs.LaunchText.{Fault, said_after, at_line, all_said, files_of, launch_said, launch_of, IsStopOf}
use Rattle.launch_text.specs.Lines.{lines_of}
use Rattle.launch_text.specs.Said.{line_said}
use Rattle.launch_text.proofs.Drafts.{draft_of, line_goes, line_stops, drafted_is}
use Rattle.launch_text.proofs.Files.{few_files}

-- So many lines have been read, and what is left leads where the whole text leads.
pub record ReadTo (text rest : List ℕ) (d : Draft) (count : ℕ) : Type 0 where
  pub lines : List Said
  pub draft : d ≡ draft_of lines
  pub counted : count ≡ length lines
  pub leads : all_said lines (lines_of rest) ≡ all_said [] (lines_of text)
  pub room : count + length rest ≤ length text

pub read_none : (text : List ℕ) (d : Draft) → d ≡ draft_of [] → ReadTo text text d 0
read_none text d e = record { lines = []; draft = e; counted = refl; leads = refl; room = omega arith }

pub files_fit : (text rest : List ℕ) (d : Draft) (count : ℕ) → ReadTo text rest d count → length d.files ≤ length text
files_fit text rest d count h =
    let few = few_files h.lines in
    let same : length d.files ≡ length (files_of h.lines) = ap (λ x. length x.files) h.draft in
    let counted = h.counted in
    let room = h.room in
    omega (arith, few, same, counted, room)

all_said_on : (lines : List Said) (line : List ℕ) (more : List (List ℕ)) (s : Said) → said_after lines line ≡ Ok s → all_said lines (line ∷ more) ≡ all_said (lines ++ s ∷ []) more
all_said_on lines line more s e = ap (λ v. at_line (length lines + 1) v (λ x. all_said (lines ++ x ∷ []) more)) e

all_said_stops : (lines : List Said) (line : List ℕ) (more : List (List ℕ)) (rule : ℕ) → said_after lines line ≡ Err rule → all_said lines (line ∷ more) ≡ Err (record { rule = rule; line = length lines + 1 })
all_said_stops lines line more rule e = ap (λ v. at_line (length lines + 1) v (λ x. all_said (lines ++ x ∷ []) more)) e

-- the verdict on a line, where so many lines were read before
taken_after : (lines : List Said) (d : Draft) (count m : ℕ) (v : Result Said ℕ) (r : Result Draft ℕ) → d ≡ draft_of lines → count ≡ length lines → m ≡ count + 1 → line_taken d m v ≡ r → line_taken (draft_of lines) (length lines + 1) v ≡ r
taken_after lines d count m v r e f g h =
    let next : m ≡ length lines + 1 = g ∙ ap (λ n. n + 1) f in
    sym (ap (λ x. line_taken x m v) e ∙ ap (λ n. line_taken (draft_of lines) n v) next) ∙ h

pub read_more : (text rest line behind : List ℕ) (d d' : Draft) (count m : ℕ) → ReadTo text rest d count → lines_of rest ≡ line ∷ lines_of behind → length behind < length rest → m ≡ count + 1 → line_taken d m (line_said line) ≡ Ok d' → ReadTo text behind d' m
read_more text rest line behind d d' count m h split shorter next takes =
    let goes = line_goes h.lines (line_said line) d' (taken_after h.lines d count m (line_said line) (Ok d') h.draft h.counted next takes) in
    let pushed = length-append h.lines (goes.said ∷ []) in
    let counted = h.counted in
    let room = h.room in
    record {
      lines = h.lines ++ goes.said ∷ [];
      draft = goes.drafted;
      counted = omega (arith, pushed, counted, next);
      leads = sym (all_said_on h.lines line (lines_of behind) goes.said goes.once_said) ∙ ap (all_said h.lines) (sym split) ∙ h.leads;
      room = omega (arith, room, shorter, next);
    }

short : (text : List ℕ) → length text ≤ 65536 → launch_of text ≡ launch_said (all_said [] (lines_of text))
unfolding launch_of
short text h = rw (le-leb (length text) 65536 h) refl

pub too_long : (text : List ℕ) → 65536 < length text → launch_of text ≡ Err (record { rule = 1; line = 1 })
unfolding launch_of
too_long text h = rw (lt-leb (length text) 65536 h) refl

pub read_stops : (text rest line behind : List ℕ) (d : Draft) (count m rule : ℕ) → ReadTo text rest d count → lines_of rest ≡ line ∷ lines_of behind → m ≡ count + 1 → line_taken d m (line_said line) ≡ Err rule → length text ≤ 65536 → launch_of text ≡ Err (record { rule = rule; line = m })
read_stops text rest line behind d count m rule h split next stops small =
    let broken = line_stops h.lines (line_said line) rule (taken_after h.lines d count m (line_said line) (Err rule) h.draft h.counted next stops) in
    let counted = h.counted in
    let last : length h.lines + 1 ≡ m = omega (arith, counted, next) in
    short text small ∙ ap launch_said (sym h.leads ∙ ap (all_said h.lines) split ∙ all_said_stops h.lines line (lines_of behind) rule broken) ∙ ap (λ n. Err (record { rule = rule; line = n })) last

pub read_stops_at : (text rest line behind : List ℕ) (d new : Draft) (count m : ℕ) (stop : LineStop) → Changes {U = Unit {0}} (Err stop) new (line_taken d m (line_said line)) → ReadTo text rest d count → lines_of rest ≡ line ∷ lines_of behind → m ≡ count + 1 → length text ≤ 65536 → IsStopOf (launch_of text) (stop_at stop m)
read_stops_at text rest line behind d new count m (Broken rule) stops h split next small = read_stops text rest line behind d count m rule h split next stops small
read_stops_at text rest line behind d new count m NoMemory stops h split next small = tt

pub read_ends : (text rest : List ℕ) (d : Draft) (count : ℕ) → ReadTo text rest d count → true ≡ (length rest == 0) → length text ≤ 65536 → launch_of text ≡ drafted d count
read_ends text rest d count h empty small =
    let none : rest ≡ [] = nil_from_length rest (eqb-true _ _ (sym empty)) in
    short text small ∙ ap launch_said (sym h.leads ∙ ap (λ r. all_said h.lines (lines_of r)) none) ∙ sym (ap (λ x. drafted x count) h.draft ∙ ap (drafted (draft_of h.lines)) h.counted ∙ drafted_is h.lines)

pub ends_ok : (verdict other : Result Launch Fault) (r : Result Launch LaunchStop) → verdict ≡ other → IfOk r (λ launch. other ≡ Ok launch) → IfOk r (λ launch. verdict ≡ Ok launch)
ends_ok verdict other (Ok launch) e h = e ∙ h
ends_ok verdict other (Err stop) e h = tt

pub ends_fault : (verdict other : Result Launch Fault) (r : Result Launch LaunchStop) → verdict ≡ other → IfErr r (IsStopOf other) → IfErr r (IsStopOf verdict)
ends_fault verdict other (Ok launch) e h = tt
ends_fault verdict other (Err stop) e h = subst (λ v. IsStopOf v stop) (sym e) h

pub ruleset readings = (read_none, files_fit, read_more, too_long)
