-- A standing machine's states are valid, and its log is empty.
use Rattle.std.proofs.Common.{◌≡◌, ℕ, ◌<◌, ◌≤◌, List, [], ◌∷◌, ◌++◌, Option, Some, None, refl, sym, ap, subst, ◌∙◌}
use Rattle.std.specs.Prelude.{IfSome}
use Rattle.std.specs.Option.{option_map}
use Rattle.std.specs.FinMap as maps
use Rattle.std.proofs.lemmas.List.Sums.{fold-append}
use Rattle.mig_guest.specs.Hosts.{HostOf, HostFrame, IsValid, most_saved_width}
use Rattle.mig_guest.specs.MachineCalls.{LogTaken}
use Rattle.mig_guest.specs.MachineStates.{IsValidState}
use Rattle.mig_guest.specs.Pfns.{Pfns, no_pfns}
use Rattle.mig_test_machine.specs.Standing.{Asked, and_then, asked, nothing_yet, standing}
use Rattle.mig_test_machine.specs.declared.standing.Call.{Call}
use Rattle.mig_test_machine.specs.declared.standing.Call.TheVariants as calls

pub stands : (h : HostOf) (a : Asked) → IsValid h → h.width ≤ most_saved_width → IsValidState (standing h a)
stands h a valid narrow = record { host = valid; narrow = narrow; logged = λ p _. refl }

has_frame : (h : HostOf) (p mfn : ℕ) (frame : Option HostFrame) → IsValid h → maps.get h.frames p ≡ frame → option_map (λ f. f.machine) frame ≡ Some mfn → p < h.width
has_frame h p mfn None valid at is = cc
has_frame h p mfn (Some frame) valid at is = (valid.frames p frame at).inside

pub inside : (h : HostOf) (mfn : ℕ) (r : Option ℕ) → IsValid h → IfSome r (λ p. option_map (λ f. f.machine) (maps.get h.frames p) ≡ Some mfn) → IfSome r (λ p. p < h.width)
inside h mfn None valid back = tt
inside h mfn (Some p) valid back = has_frame h p mfn (maps.get h.frames p) valid refl back

-- ---- an empty log is taken

took_here : (h : HostOf) (a : Asked) → LogTaken no_pfns (standing h a) (standing h (and_then a calls.Log))
took_here h a = record {
  ran = record {
    shape = record { kind = refl; width = refl; lengths = λ key. refl; fixed = λ key is. refl };
    honest = refl;
    grown = λ p is. refl;
    quiet = λ is p out. refl;
    stopped = λ is. refl;
  };
  below = λ p is. refl;
  empty = refl;
  history = refl;
  paused = refl;
}

took_so : (g h : HostOf) (a b : Asked) → h ≡ g → b ≡ and_then a calls.Log → LogTaken no_pfns (standing g a) (standing h b)
took_so g h a b e f =
    subst (λ (x : HostOf). LogTaken no_pfns (standing g a) (standing x b)) (sym e)
    (subst (λ (y : Asked). LogTaken no_pfns (standing g a) (standing g y)) (sym f) (took_here g a))

pub took : (log : Pfns) (g h : HostOf) (cs ds : List Call) → log ≡ no_pfns → h ≡ g → ds ≡ cs ++ calls.Log ∷ [] → LogTaken log (standing g (asked cs)) (standing h (asked ds))
took log g h cs ds empty e f =
    subst (λ (l : Pfns). LogTaken l (standing g (asked cs)) (standing h (asked ds))) (sym empty)
    (took_so g h (asked cs) (asked ds) e (ap asked f ∙ fold-append and_then nothing_yet cs (calls.Log ∷ [])))
