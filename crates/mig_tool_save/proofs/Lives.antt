-- A machine that was saved, and what was written of it.
use Rattle.mig_tool_save.proofs.Common.{◌≡◌, ℕ, ◌++◌, List, [], length, Option, Some, None, Err, refl, sym, ap, subst, ◌∙◌, arith, inl, ◌+◌, Rose, Unsound, HostOf, headers, unsoundness, view, AcceptedStream, HasRounds, LineOf, history_of, machine_state, Paced, IsTrusted, SaveAnswer, Outcome, WroteLive, WroteLiveTo, paused_host, ComesToNone, Result, ◌∷◌, map, wrapper_opening, wrapper_closing, MachineSeen, HasPaces, pfns_paced, EndsUnsound, PausesMachine, SaveEnds, SaveWritten, WroteNoStream}
use Rattle.mig_headers.specs.declared.kind.Kind.{Kind}
use Rattle.mig_records.specs.Records.{text_of}
use Rattle.mig_records_pages.specs.Told.{telling_record}
use Rattle.mig_guest.specs.MachineStates.{IsSameShape, MachineState}
use Rattle.mig_guest.specs.Rounds.{Rounds, Tight, all_read}
use Rattle.mig_machine.specs.Exact.{IsExactFrom}
use Rattle.mig_tool_report.specs.declared.outcome.Refusal.TheVariants as refusals
use Rattle.mig_dirtysave.specs.declared.answer.SaveAnswer.TheVariants as answers
use Rattle.mig_tool_report.specs.declared.outcome.Outcome.TheVariants as outcomes

-- the machine shows the types as they are
honest : (m : MachineSeen) → IsTrusted (machine_state m)
honest m = inl refl

-- a tight history of a machine of the same kind and width
pub tight_of : (h : HostOf) (now : MachineSeen) → IsSameShape h now.host → Tight now.host.kind now.host.width (history_of now) → Tight h.kind h.width (history_of now)
tight_of h now shape t =
    subst (λ (kind : Kind). Tight kind h.width (history_of now)) shape.kind (subst (λ (width : ℕ). Tight now.host.kind width (history_of now)) shape.width t)

rounds_of : (h : HostOf) (now : MachineSeen) → IsSameShape h now.host → HasRounds (machine_state now) → Rounds h.kind h.width (history_of now)
rounds_of h now shape r =
    subst (λ (kind : Kind). Rounds kind h.width (history_of now)) shape.kind (subst (λ (width : ℕ). Rounds now.host.kind width (history_of now)) shape.width r)

pub wrote_live : (h : HostOf) (now : MachineSeen) (old new : Option (List ℕ)) (entries : ℕ) → IsExactFrom h now → IsSameShape h now.host → SaveWritten old new (machine_state now) → (IsTrusted (machine_state now) → unsoundness now.host ≡ None)
    → (t : Tight h.kind h.width (history_of now)) (p : HasPaces h now t.rounds) → all_read h.width (history_of now) ≡ pfns_paced p.paced → length (pfns_paced p.paced) ≡ p.entries + h.width
    → entries ≡ length (all_read now.host.width (history_of now)) → (w : WroteLive h now.lines old new (record { rounds = (history_of now).live; entries = entries })) × (w.calls ≡ now.runs)
wrote_live h now old new entries exact shape w sound t p order counted n =
    let at : now.host ≡ paused_host h now.lines now.runs = exact.host in
    let read : all_read now.host.width (history_of now) ≡ pfns_paced p.paced = ap (λ (width : ℕ). all_read width (history_of now)) shape.width ∙ order in (
      record {
        calls = now.runs;
        again = p.entries;
        paced = p.paced;
        sound = subst (λ h. unsoundness h ≡ None) at (sound (honest now));
        text = w.text;
        wrote = w.appended;
        means = λ rest. subst (λ h. AcceptedStream (w.text ++ rest) (view h) rest) at (w.means refl rest);
        entries = record {
          before = w.before;
          batches = w.batches;
          behind = w.behind;
          image = w.image;
          image_is = w.image_is ∙ ap (λ (h : HostOf). headers h.kind ++ text_of (w.before ++ (map telling_record w.batches ++ (w.behind ++ (0, []) ∷ [])))) at;
          is = w.is ∙ ap (λ (h : HostOf). wrapper_opening h.parts ++ (w.image ++ wrapper_closing h.parts)) at;
          others = w.others;
          order = w.order ∙ read;
        };
        counted = n ∙ ap (λ (l : List ℕ). length l) read ∙ counted;
      },
      refl,
    )

-- and the machine stands at the host at the pause, with the script and the rounds that it is known by
pub wrote_live_to : (h : HostOf) (lines : List LineOf) (now : MachineSeen) (rounds entries : ℕ) (old new : Option (List ℕ)) → now.lines ≡ lines → rounds ≡ (history_of now).live → IsExactFrom h now
    → (w : WroteLive h now.lines old new (record { rounds = (history_of now).live; entries = entries })) → w.calls ≡ now.runs
    → WroteLiveTo h lines now.host old new (record { rounds = rounds; entries = entries })
wrote_live_to h lines now rounds entries old new script live exact w calls =
    subst (λ (n : ℕ). WroteLiveTo h lines now.host old new (record { rounds = n; entries = entries })) (sym live)
    (subst (λ (ls : List LineOf). WroteLiveTo h ls now.host old new (record { rounds = (history_of now).live; entries = entries })) script
    (record { wrote = w; at_pause = exact.host ∙ ap (λ (n : ℕ). paused_host h now.lines n) (sym calls) }))

-- ---- where no stream was written

pub record PausesSo (h : HostOf) (lines : List LineOf) (calls : ℕ) : Type 0 where
  pub rounds : ℕ
  pub again : ℕ
  pub paced : Paced h lines rounds calls again

pub pauses_so : (h : HostOf) (now : MachineSeen) → ((r : Rounds h.kind h.width (history_of now)) → HasPaces h now r) → IsSameShape h now.host → HasRounds (machine_state now) → PausesSo h now.lines now.runs
pauses_so h now law shape r = let p = law (rounds_of h now shape r) in record { rounds = (history_of now).live; again = p.entries; paced = p.paced }

pub left_no_stream : (s t : MachineState) (old new : Option (List ℕ)) (answer : SaveAnswer) → SaveEnds s t old new (Err answer) → WroteNoStream old new
left_no_stream s t old new (answers.Unsound u) ends = ends.unwritten.no_stream
left_no_stream s t old new answers.MachineFault ends = ends.no_stream
left_no_stream s t old new answers.WriteFault ends = ends.no_stream

-- ---- what an answer of a saver comes to

-- a machine that never fails answers no fault
pub never_fails : (X : Type 0) (answer : SaveAnswer) → (◌≡◌ {A = Result X SaveAnswer} (Err answer) (Err answers.MachineFault) → Rose 0 0) → answer ≡ answers.MachineFault → ⊥
never_fails X answer h is = let rose = h (ap (λ (a : SaveAnswer). Err a) is) in omega (arith, rose)

module _ (answer : SaveAnswer) (outcome : Outcome) (fault : answer ≡ answers.MachineFault → ⊥) (unsound : (u : Unsound) → answer ≡ answers.Unsound u → outcome ≡ outcomes.Refused (refusals.Pause u)) (write : answer ≡ answers.WriteFault → outcome ≡ outcomes.WriteFault) where
  -- no stream was written
  pub ends : (first now : MachineSeen) (old new : Option (List ℕ)) → now.host ≡ paused_host first.host now.lines now.runs → (PausesMachine (machine_state first) (machine_state now) → PausesSo first.host now.lines now.runs)
      → SaveEnds (machine_state first) (machine_state now) old new (Err answer) → ComesToNone first.host now.lines outcome
  ends first now old new at paced save = by answer refl
    where
      by : (a : SaveAnswer) → answer ≡ a → ComesToNone first.host now.lines outcome
      by (answers.Unsound u) is =
          let e : EndsUnsound (machine_state first) (machine_state now) old new u = subst (λ (b : SaveAnswer). SaveEnds (machine_state first) (machine_state now) old new (Err b)) is save in
          let so = paced e.pause in
          subst (ComesToNone first.host now.lines) (sym (unsound u is))
          (record { rounds = so.rounds; calls = now.runs; again = so.again; paced = so.paced; first = subst (λ h. unsoundness h ≡ Some u) at (e.first (honest now)) })
      by answers.WriteFault is = subst (ComesToNone first.host now.lines) (sym (write is)) tt
      by answers.MachineFault is = absurd (fault is)

  -- there was memory
  pub had_memory : outcome ≡ outcomes.Memory → ⊥
  had_memory e = by answer refl
    where
      by : (a : SaveAnswer) → answer ≡ a → ⊥
      by (answers.Unsound u) is = let f : outcomes.Refused (refusals.Pause u) ≡ outcomes.Memory = sym (unsound u is) ∙ e in cc
      by answers.WriteFault is = let f : outcomes.WriteFault ≡ outcomes.Memory = sym (write is) ∙ e in cc
      by answers.MachineFault is = fault is

  -- a write failed
  pub no_write : outcome ≡ outcomes.WriteFault → answer ≡ answers.WriteFault
  no_write e = by answer refl
    where
      by : (a : SaveAnswer) → answer ≡ a → answer ≡ answers.WriteFault
      by (answers.Unsound u) is = let f : outcomes.Refused (refusals.Pause u) ≡ outcomes.WriteFault = sym (unsound u is) ∙ e in cc
      by answers.WriteFault is = is
      by answers.MachineFault is = absurd (fault is)
