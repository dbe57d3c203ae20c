-- Whoever carries out a promise keeps it, where no input is both done and refused.
use Rattle.mig_tool_report.proofs.Common.{◌≡◌, ◌⊎◌, ℕ, List, Option, Some, refl, subst, inl, inr, Rose, InputRises, Refusing, StatusSays, Status}
use Rattle.mig_tool_report.specs.Promises.{CarriedOut, Effects, IsOfInput, KeepsPromise, Promise, copies_text, reports_line, writes_text}
use Rattle.mig_tool_report.specs.declared.outcome.Refusal.{Refusal}
use Rattle.mig_tool_report.specs.declared.status.Status.TheVariants as statuses

pub record IsSettled (p : Promise) : Type 1 where
  -- where nothing failed, an accepted input may be done, or want memory
  pub done : (input : List ℕ) → p.EndsWith input statuses.Done
  pub starved : (input : List ℕ) → p.EndsWith input statuses.Memory
  -- one that is accepted and refused too may end so
  pub refused : (input : List ℕ) (refusal : Refusal) (rest : List ℕ) → p.Accepts input → p.Refuses input refusal rest → p.EndsWith input statuses.Refused
  -- a refused input isn't done, nor in part
  pub not_done : (input : List ℕ) (e : Effects) (refusal : Refusal) (rest : List ℕ) → p.Done input e → p.Refuses input refusal rest → IsOfInput refusal → ⊥
  pub not_part : (input : List ℕ) (e : Effects) (refusal : Refusal) (rest : List ℕ) → p.DonePart input e → p.Refuses input refusal rest → IsOfInput refusal → (p.WritesRefused → ⊥) → ⊥
  -- what is written of a refused input fails where a write of the output fails alone
  pub unbroken : (e : Effects) (status : Status) (input : List ℕ) (refusal : Refusal) (rest : List ℕ) → p.WritesRefused → e.input.told ≡ Some input → p.Refuses input refusal rest → (Rose e.out.failed e.out.failed_now → ⊥)
      → p.Besides e status → status ≡ statuses.WriteFault → p.WriteRose e → ⊥

-- of a command that puts a line: what is told of an input is told of an accepted one, and none is accepted and refused
pub settled_line : {Summary : Type 0} (line : Summary → List ℕ) (Accepts : List ℕ → Type 0) (Refuses : Refusing) (Says : (List ℕ → Type 0) → List ℕ → Option (List ℕ) → Type 0)
    → ((Reported : List ℕ → Type 0) (input : List ℕ) (left : Option (List ℕ)) → Says Reported input left → Accepts input)
    → ((input : List ℕ) (refusal : Refusal) (rest : List ℕ) → Accepts input → Refuses input refusal rest → ⊥) → IsSettled (reports_line line Accepts Refuses Says)
settled_line line Accepts Refuses Says accepts once = record {
  done = λ input. inl refl;
  starved = λ input. inr refl;
  refused = λ input refusal rest a r. absurd (once input refusal rest a r);
  not_done = λ input e refusal rest h r it. once input refusal rest (accepts _ input _ h) r;
  not_part = λ input e refusal rest h r it other. once input refusal rest (accepts _ input _ h) r;
  unbroken = λ e status input refusal rest before is r quiet besides failed rose. before;
}

-- and of one that writes a text
pub settled_text : (Accepts : List ℕ → Type 0) (Refuses : Refusing) (Text Part : List ℕ → (left old new : Option (List ℕ)) → Type 0)
    → ((input : List ℕ) (left old new : Option (List ℕ)) → Text input left old new → Accepts input) → ((input : List ℕ) (left old new : Option (List ℕ)) → Part input left old new → Accepts input)
    → ((input : List ℕ) (refusal : Refusal) (rest : List ℕ) → Accepts input → Refuses input refusal rest → ⊥) → IsSettled (writes_text Accepts Refuses Text Part)
settled_text Accepts Refuses Text Part whole part once = record {
  done = λ input. inl refl;
  starved = λ input. inr refl;
  refused = λ input refusal rest a r. absurd (once input refusal rest a r);
  not_done = λ input e refusal rest h r it. once input refusal rest (whole input _ _ _ h) r;
  not_part = λ input e refusal rest h r it other. once input refusal rest (part input _ _ _ h) r;
  unbroken = λ e status input refusal rest before is r quiet besides failed rose. before;
}

-- and of one that copies it from a file: what it may write with status 3 settles nothing
pub settled_copy : (Accepts : List ℕ → Type 0) (Refuses : Refusing) (Text Part : List ℕ → (left old new : Option (List ℕ)) → Type 0) → IsSettled (writes_text Accepts Refuses Text Part)
    → IsSettled (copies_text Accepts Refuses Text Part)
settled_copy Accepts Refuses Text Part s = record {
  done = s.done;
  starved = s.starved;
  refused = s.refused;
  not_done = s.not_done;
  not_part = s.not_part;
  unbroken = λ e status input refusal rest before is r quiet besides failed rose. before;
}

-- ---- of an input that tells its bytes

module _ (p : Promise) (settled : IsSettled p) (e : Effects) where
  abbrev Says : Option (List ℕ) → Status → Type 0
  Says told status = StatusSays (λ input. p.Done input e) (λ input. p.DonePart input e) p.Refuses told e.input.left status

  -- an accepted input ends as is promised where nothing failed
  ends : (input : List ℕ) (status : Status) → Says (Some input) status → p.Accepts input → (status ≡ statuses.ReadFault → ⊥) → (status ≡ statuses.WriteFault → ⊥) → p.EndsWith input status
  ends input statuses.Done h accepted reads writes = settled.done input
  ends input statuses.Refused h accepted reads writes = settled.refused input h.refusal h.rest accepted h.refused
  ends input statuses.Usage h accepted reads writes = absurd h
  ends input statuses.ReadFault h accepted reads writes = absurd (reads refl)
  ends input statuses.WriteFault h accepted reads writes = absurd (writes refl)
  ends input statuses.Memory h accepted reads writes = settled.starved input

  refused_or : (input : List ℕ) (status : Status) (refusal : Refusal) (rest : List ℕ) → Says (Some input) status → p.Refuses input refusal rest → IsOfInput refusal
      → (status ≡ statuses.ReadFault → ⊥) → (p.WritesRefused → status ≡ statuses.WriteFault → ⊥) → (status ≡ statuses.Refused) ⊎ (status ≡ statuses.Memory)
  refused_or input statuses.Done refusal rest h refused it reads writes = absurd (settled.not_done input e refusal rest h refused it)
  refused_or input statuses.Refused refusal rest h refused it reads writes = inl refl
  refused_or input statuses.Usage refusal rest h refused it reads writes = absurd h
  refused_or input statuses.ReadFault refusal rest h refused it reads writes = absurd (reads refl)
  refused_or input statuses.WriteFault refusal rest h refused it reads writes = absurd (settled.not_part input e refusal rest h refused it (λ before. writes before refl))
  refused_or input statuses.Memory refusal rest h refused it reads writes = inr refl

-- a read fault comes with a risen count
input_rose : (status : Status) (before now : ℕ) → InputRises status before now → status ≡ statuses.ReadFault → Rose before now
input_rose status before now h is = let r = subst (λ s. InputRises s before now) is h in r.1

pub keeps : (p : Promise) → IsSettled p → (e : Effects) (status : Status) → CarriedOut p e status → KeepsPromise p e status
keeps p settled e status came = record {
  carried_out = came;
  accepted = λ input is accepted reads writes.
      ends p settled e input status (subst (λ t. Says p settled e t status) is came.said) accepted (λ f. reads (input_rose status _ _ came.read f)) (λ f. writes (came.write f));
  refused = λ input refusal rest is refused it reads writes.
      refused_or p settled e input status refusal rest (subst (λ t. Says p settled e t status) is came.said) refused it (λ f. reads (input_rose status _ _ came.read f))
      (λ before f. settled.unbroken e status input refusal rest before is refused (writes before) came.besides f (came.write f));
}
