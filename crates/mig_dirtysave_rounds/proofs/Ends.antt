-- From the pause to the end, and the start.
use Rattle.mig_dirtysave_rounds.proofs.Common.{arith, ◌≡◌, ℕ, ◌+◌, ◌<◌, ◌≤◌, List, [], ◌∷◌, ◌++◌, length, Bool, true, false, cond, Option, Some, None, refl, sym, ap, subst, ◌∙◌, inl, inr, append-nil, ◌||◌, ◌⊎◌, option_map, nat_cmp_total, cases_lt, nat_tests, fun_ext, HostOf, HostFrame, HostFrames, FrameTold, Pfns, no_pfns, joined, members, size, all_below, footprint, footprint_of, Since, History, nothing_asked, no_history, one_more, and_call, MachineState, IsValidState, LogTaken, Rounds, to_read, rounds_read, all_read, Worst, form_of_print, type_of_print, superpage_slot, lost_slot, judged, frame_sent, is_deferred, IsBelow, rest, entries_read, entries_read_before, pfns_sent, frames_meant, Notes, no_notes, Current, ReadsFront, SendsFront, IsWorst, within_set, super_of, lost_of, LiveSent, SavedSent, table_fault, worst_fault, Paused, Tight, Ended, Saved, forms, type_in, tables_unsound, or_parts}
use Rattle.std.specs.Ordering.{nat_cmp}
use Rattle.std.specs.FinMap.{nat_cmp-IsAntisymmetric}
use Rattle.mig_pvtables.proofs.EachValue.{get_each}
use Rattle.mig_dirtysave_rounds.specs.Sends.{first_pfn}
use Rattle.mig_dirtysave_rounds.proofs.Firsts.{first_none, first_same, super_is, lost_is, good_when, good_super, good_lost, good_form, no_fault, same_fault}
use Rattle.mig_dirtysave_rounds.proofs.Parts.{members_below, joined_below}
use Rattle.mig_dirtysave_rounds.proofs.Steps.{current_on, told_alike}
use Rattle.mig_dirtysave_rounds.proofs.Saves.{front_all, rest_gone, taken_after, no_members, size_none}
use Rattle.std.specs.FinMap as fin
use Rattle.mig_guest.specs.Hosts as hosts

-- ---- the frames in the end

form_sent : (frames : HostFrames) (o : Option HostFrame) → is_deferred (judged (option_map (footprint_of frames) o)) ≡ false
    → frame_sent (judged (option_map (footprint_of frames) o)) ≡ option_map (λ k. form_of_print (footprint_of frames k)) o
form_sent frames None e = refl
form_sent frames (Some k) e = good_form (footprint_of frames k) e

formed : (frames : HostFrames) (q : ℕ) → fin.get (forms frames) q ≡ option_map (λ k. form_of_print (footprint_of frames k)) (fin.get frames q)
formed frames q = get_each nat_cmp_total nat_cmp-IsAntisymmetric (λ _ (k : HostFrame). form_of_print (footprint_of frames k)) frames q

print_type : (frames : HostFrames) (o : Option HostFrame) → type_of_print (option_map (footprint_of frames) o) ≡ option_map (λ (k : HostFrame). k.type) o
print_type frames None = refl
print_type frames (Some k) = refl

-- what was read before the last ones
pub order_last : (s t u : MachineState) (set log : Pfns) (sent : List FrameTold) (notes : Notes) → s.history.since ≡ nothing_asked → Paused s t → LogTaken log t u → LiveSent s set sent notes
    → pfns_sent sent ≡ rounds_read u.host.width u.history.taken
order_last s t u set log sent notes fresh paused took live =
    live.order ∙ sym last_order ∙ ap (λ w. rounds_read w u.history.taken) (sym (took.ran.shape.width ∙ paused.ran.shape.width))
  where
    last_taken : u.history.taken ≡ taken_after t log ∷ s.history.taken
    last_taken = ap (λ (h : History). h.taken) took.history ∙ ap (λ (h : History). taken_after t log ∷ h.taken) paused.history

    none : t.history.since.read ≡ no_pfns
    none = ap (λ (h : History). h.since.read) paused.history ∙ ap (λ (a : Since). a.read) fresh

    last_order : rounds_read s.host.width u.history.taken ≡ rounds_read s.host.width s.history.taken
    last_order =
        ap (rounds_read s.host.width) last_taken ∙ ap (λ (r : Pfns). rounds_read s.host.width s.history.taken ++ members s.host.width r) none
        ∙ ap (λ l. rounds_read s.host.width s.history.taken ++ l) (no_members s.host.width) ∙ append-nil (rounds_read s.host.width s.history.taken)

-- the pause, the last log, and the PFNs that are read after it
pub record Last (s t u v : MachineState) (set log deferred both : Pfns) : Type 0 where
  pub paused : Paused s t
  pub took : LogTaken log t u
  pub are : both ≡ joined (joined set log) deferred
  pub below : IsBelow s.host.width both
  pub reads : ReadsFront s.host.width both u v

pub both_below : (s t u : MachineState) (set log deferred both : Pfns) → Paused s t → LogTaken log t u → both ≡ joined (joined set log) deferred → IsBelow s.host.width set → IsBelow s.host.width deferred
    → IsBelow s.host.width both
both_below s t u set log deferred both paused took are in_set in_deferred =
    let in_log : IsBelow s.host.width log = let P : ℕ → Type 0 = λ n. IsBelow n log in subst P paused.ran.shape.width took.below in
    subst (λ (x : Pfns). IsBelow s.host.width x) (sym are) (joined_below s.host.width (joined set log) deferred (joined_below s.host.width set log in_set in_log) in_deferred)

-- the set is what it was with the log, and then with what is deferred
pub last_reads : {s t u v : MachineState} {set log deferred more both : Pfns} → Paused s t → LogTaken log t u → both ≡ joined more deferred → more ≡ joined set log → IsBelow s.host.width set → IsBelow s.host.width deferred
    → ReadsFront u.host.width both u v → Last s t u v set log deferred both
last_reads {s = s} {t = t} {u = u} {v = v} {set = set} {log = log} {deferred = deferred} {both = both} paused took added more in_set in_deferred reads =
    let are : both ≡ joined (joined set log) deferred = added ∙ ap (λ (x : Pfns). joined x deferred) more in
    let Reads : ℕ → Type 0 = λ n. ReadsFront n both u v in
    record {
      paused = paused;
      took = took;
      are = are;
      below = both_below s t u set log deferred both paused took are in_set in_deferred;
      reads = subst Reads (took.ran.shape.width ∙ paused.ran.shape.width) reads;
    }

module _ (rounds : ℕ) (s t u v : MachineState) (set log : Pfns) (notes : Notes) (both : Pfns) (ended : Ended rounds s set) (l : Last s t u v set log notes.deferred both) where
  kind : v.host.kind ≡ s.host.kind
  kind = l.reads.shape.kind ∙ l.took.ran.shape.kind ∙ l.paused.ran.shape.kind

  last_width : v.host.width ≡ s.host.width
  last_width = l.reads.shape.width ∙ l.took.ran.shape.width ∙ l.paused.ran.shape.width

  last_paused : u.paused ≡ true
  last_paused = l.took.paused ∙ l.paused.paused

  count : v.history.live ≡ s.history.live
  count = l.reads.count ∙ ap (λ (h : History). h.live) l.took.history ∙ ap (λ b. cond b t.history.live (t.history.live + 1)) l.paused.paused ∙ ap (λ (h : History). h.live) l.paused.history

  taken : v.history.taken ≡ taken_after t log ∷ s.history.taken
  taken = l.reads.taken ∙ ap (λ (h : History). h.taken) l.took.history ∙ ap (λ (h : History). taken_after t log ∷ h.taken) l.paused.history

  asked : t.history.since ≡ and_call nothing_asked
  asked = ap (λ (h : History). h.since) l.paused.history ∙ ap and_call ended.live.since

  read : v.history.since.read ≡ joined (joined (to_read s.host.width s.history.taken) log) notes.deferred
  read = l.reads.read ∙ front_all s.host.width both l.below ∙ l.are ∙ ap (λ r. joined (joined r log) notes.deferred) ended.live.unread

  within : (q : ℕ) → joined (to_read s.host.width s.history.taken) log q ≡ true → v.history.since.read q ≡ true
  within q h = ap (λ (r : Pfns). r q) read ∙ ap (λ b. b || notes.deferred q) h

  last_few : (size s.host.width (to_read s.host.width s.history.taken) < 50) ⊎ (length s.history.taken ≡ 5)
  last_few = elim (cases_lt rounds 5) [
    | inl less ↦ inl (subst (λ (r : Pfns). size s.host.width r < 50) ended.live.unread (ended.few less))
    | inr more ↦ inr (omega (arith, more, ended.number, ended.most))
  ]

  rounds_are : Rounds s.host.kind s.host.width v.history
  rounds_are = record {
    live = s.history.taken;
    last = taken_after t log;
    logs = taken;
    before_pause = sym ended.live.number ∙ sym count;
    number = (subst (λ n. 1 ≤ n) ended.number ended.some, subst (λ n. n ≤ 5) ended.number ended.most);
    reads = ended.live.rounds.reads;
    sizes = (ended.live.rounds.sizes, last_few);
    calls = ended.live.rounds.calls;
    stopped = (ap (λ (a : Since). a.read) asked, ap (λ (a : Since). one_more a.calls) asked);
    rest = within;
    once = (ended.live.rounds.once, l.reads.once);
  }

  pub saved : Saved rounds v
  saved = record {
    paused = l.reads.paused ∙ last_paused;
    number = ended.number ∙ sym ended.live.number ∙ sym count;
    are = subst (λ k. Rounds k v.host.width v.history) (sym kind) (subst (λ w. Rounds s.host.kind w v.history) (sym last_width) rounds_are);
  }

  -- how many PFNs were read in all
  pub counted_last : entries_read v.host.width v.history ≡ entries_read_before s.host.width s.history.taken + size v.host.width both
  counted_last =
      ap (λ w. entries_read w v.history) last_width
      ∙ omega (
        arith,
        ap (entries_read_before s.host.width) taken,
        ap (λ (a : Since). size s.host.width a.read) asked,
        size_none s.host.width,
        ap (λ (r : Pfns). size s.host.width r) (l.reads.read ∙ front_all s.host.width both l.below),
      )
      ∙ ap (λ n. entries_read_before s.host.width s.history.taken + size n both) (sym last_width)

  earlier : rounds_read s.host.width s.history.taken ≡ rounds_read s.host.width v.history.taken
  earlier = sym (ap (rounds_read s.host.width) taken ∙ ap (λ (r : Pfns). rounds_read s.host.width s.history.taken ++ members s.host.width r) (ap (λ (a : Since). a.read) asked)
      ∙ ap (λ l. rounds_read s.host.width s.history.taken ++ l) (no_members s.host.width) ∙ append-nil (rounds_read s.host.width s.history.taken))

  module _ (before after : List FrameTold) (now : Notes) (worst : Worst) (sent : LiveSent s set before notes)
      (sends : SendsFront s.host.width both u v before after notes now) (bad : IsWorst s.host.width both v.host.frames worst) where
    was : v.honest ≡ true → s.honest ≡ true
    was h = sym (l.reads.honest ∙ l.took.ran.honest ∙ l.paused.ran.honest) ∙ h

    -- after the pause the log no longer matters
    current : v.honest ≡ true → Current (joined set log) no_pfns u.host.frames before notes
    current h =
        let live : t.honest ≡ true = l.paused.ran.honest ∙ was h in
        current_on set (joined set log) s.log no_pfns notes s.host.frames u.host.frames before (λ q r _.
        let (a, b) = or_parts (set q) (log q) r in
        let calm : t.log q ≡ false = l.took.ran.grown q b in
        (a, l.paused.ran.grown q calm, l.took.ran.quiet live q b ∙ l.paused.ran.quiet (was h) q calm)) (sent.current (was h))

    fewer : v.honest ≡ true → Current both no_pfns u.host.frames before notes
    fewer h =
        current_on (joined set log) both no_pfns no_pfns notes u.host.frames u.host.frames before
        (λ q r c. ((or_parts (joined set log q) (notes.deferred q) (sym (ap (λ (p : Pfns). p q) l.are) ∙ r)).0, refl, refl)) (current h)

    same_host : v.host ≡ u.host
    same_host = l.reads.stopped last_paused

    in_the_end : v.honest ≡ true → Current no_pfns no_pfns v.host.frames after now
    in_the_end h =
        current_on (rest s.host.width both) no_pfns no_pfns no_pfns now v.host.frames v.host.frames after
        (λ q r c. (ap (λ (x : Pfns). x q) (rest_gone s.host.width both l.below), refl, refl)) (sends.still last_paused (fewer h))

    -- what isn't read after the pause a stream can have
    unread_good : v.honest ≡ true → (q : ℕ) → joined set log q ≡ false → notes.deferred q ≡ false → is_deferred (judged (footprint v.host.frames q)) ≡ false
    unread_good h q out calm = ap (λ (x : HostOf). is_deferred (judged (footprint x.frames q))) same_host ∙ sym ((current h).kept q out refl) ∙ calm

    outside_good : v.honest ≡ true → (q : ℕ) → both q ≡ false → is_deferred (judged (footprint v.host.frames q)) ≡ false
    outside_good h q out = let (a, b) = or_parts (joined set log q) (notes.deferred q) (sym (ap (λ (p : Pfns). p q) l.are) ∙ out) in unread_good h q a b

    inside_good : worst_fault worst ≡ None → (q : ℕ) → both q ≡ true → is_deferred (judged (footprint v.host.frames q)) ≡ false
    inside_good none q inside =
        let f = footprint v.host.frames q in
        let (no_super, no_lost) = no_fault worst.superpage worst.lost none in
        let less : q < s.host.width = members_below s.host.width both q l.below inside in
        good_when (judged f)
        (ap (λ b. cond b (super_of (judged f)) None) (sym inside) ∙ first_none (within_set both (λ p. super_of (judged (footprint v.host.frames p)))) s.host.width (sym bad.superpage ∙ no_super) q less)
        (ap (λ b. cond b (lost_of (judged f)) None) (sym inside) ∙ first_none (within_set both (λ p. lost_of (judged (footprint v.host.frames p)))) s.host.width (sym bad.lost ∙ no_lost) q less)

    all_good : v.honest ≡ true → worst_fault worst ≡ None → (q : ℕ) → is_deferred (judged (footprint v.host.frames q)) ≡ false
    all_good h none q = go (both q) refl
      where
        go : (b : Bool) → both q ≡ b → is_deferred (judged (footprint v.host.frames q)) ≡ false
        go true e = inside_good none q e
        go false e = outside_good h q e

    means : v.honest ≡ true → worst_fault worst ≡ None → frames_meant after ≡ forms v.host.frames
    means h none =
        fin.same_map nat_cmp_total nat_cmp-IsAntisymmetric (frames_meant after) (forms v.host.frames) (λ q.
        (in_the_end h).same q refl refl ∙ form_sent v.host.frames (fin.get v.host.frames q) (all_good h none q) ∙ sym (formed v.host.frames q))

    types : v.honest ≡ true → (q : ℕ) → now.types q ≡ type_in v.host.frames q
    types h q = (in_the_end h).types q refl refl ∙ print_type v.host.frames (fin.get v.host.frames q)

    exact : v.honest ≡ true → worst_fault worst ≡ None → v.history.since.read ≡ joined (to_read s.host.width s.history.taken) log
    exact h none = read ∙ fun_ext (λ q. at q (joined (to_read s.host.width s.history.taken) log q) refl)
      where
        at : (q : ℕ) (b : Bool) → joined (to_read s.host.width s.history.taken) log q ≡ b → joined (joined (to_read s.host.width s.history.taken) log) notes.deferred q ≡ joined (to_read s.host.width s.history.taken) log q
        at q true e = ap (λ b. b || notes.deferred q) e ∙ sym e
        at q false e =
            let out : joined set log q ≡ false = ap (λ (r : Pfns). joined r log q) ended.live.unread ∙ e in
            ap (λ b. b || notes.deferred q) e ∙ (current h).kept q out refl ∙ ap (λ (x : HostOf). is_deferred (judged (footprint x.frames q))) (sym same_host) ∙ all_good h none q ∙ sym e

    supers : v.honest ≡ true → (q : ℕ) → within_set both (λ p. super_of (judged (footprint v.host.frames p))) q ≡ superpage_slot (footprint v.host.frames q)
    supers h q = go (both q) refl
      where
        go : (b : Bool) → both q ≡ b → cond (both q) (super_of (judged (footprint v.host.frames q))) None ≡ superpage_slot (footprint v.host.frames q)
        go true e = let f = footprint v.host.frames q in ap (λ b. cond b (super_of (judged f)) None) e ∙ super_is f
        go false e = let f = footprint v.host.frames q in ap (λ b. cond b (super_of (judged f)) None) e ∙ sym (good_super f (outside_good h q e))

    losts : v.honest ≡ true → (q : ℕ) → superpage_slot (footprint v.host.frames q) ≡ None → within_set both (λ p. lost_of (judged (footprint v.host.frames p))) q ≡ lost_slot (footprint v.host.frames q)
    losts h q none = go (both q) refl
      where
        go : (b : Bool) → both q ≡ b → cond (both q) (lost_of (judged (footprint v.host.frames q))) None ≡ lost_slot (footprint v.host.frames q)
        go true e = let f = footprint v.host.frames q in ap (λ b. cond b (lost_of (judged f)) None) e ∙ lost_is f none
        go false e = let f = footprint v.host.frames q in ap (λ b. cond b (lost_of (judged f)) None) e ∙ sym (good_lost f (outside_good h q e))

    wide_end : s.host.width ≡ v.host.width
    wide_end = sym last_width

    first : v.honest ≡ true → worst_fault worst ≡ tables_unsound v.host.frames v.host.width
    first h =
        ap (λ x. table_fault x worst.lost) super_row
        ∙ same_fault (first_pfn (λ q. superpage_slot (footprint v.host.frames q)) v.host.width) worst.lost (first_pfn (λ q. lost_slot (footprint v.host.frames q)) v.host.width) (λ none.
        bad.lost ∙ ap (first_pfn (within_set both (λ p. lost_of (judged (footprint v.host.frames p))))) wide_end
        ∙ first_same (within_set both (λ p. lost_of (judged (footprint v.host.frames p)))) (λ q. lost_slot (footprint v.host.frames q)) v.host.width
        (λ q less. losts h q (first_none (λ p. superpage_slot (footprint v.host.frames p)) v.host.width none q less)))
      where
        super_row : worst.superpage ≡ first_pfn (λ q. superpage_slot (footprint v.host.frames q)) v.host.width
        super_row =
            bad.superpage ∙ ap (first_pfn (within_set both (λ p. super_of (judged (footprint v.host.frames p))))) wide_end
            ∙ first_same (within_set both (λ p. super_of (judged (footprint v.host.frames p)))) (λ q. superpage_slot (footprint v.host.frames q)) v.host.width (λ q less. supers h q)

    pub saved_sent : SavedSent v after worst now
    unfolding rounds_are
    saved_sent = record {
      order = sends.names ∙ ap (λ l. l ++ members s.host.width both) (sent.order ∙ earlier)
          ∙ ap (λ (r : Pfns). rounds_read s.host.width v.history.taken ++ members s.host.width r) (sym (l.reads.read ∙ front_all s.host.width both l.below)) ∙ ap (λ w. all_read w v.history) (sym last_width);
      told = told_alike after (sym l.reads.shape.kind) (sym l.reads.shape.width)
          (sends.told (told_alike before (sym (l.took.ran.shape.kind ∙ l.paused.ran.shape.kind)) (sym (l.took.ran.shape.width ∙ l.paused.ran.shape.width)) sent.told));
      first = first;
      types = types;
      tight = λ h none.
          subst (λ k. Tight k v.host.width v.history) (sym kind) (subst (λ w. Tight s.host.kind w v.history) (sym last_width) (record { rounds = rounds_are; exact = exact h none }));
      means = means;
    }

-- ---- the start

past : (width q : ℕ) → all_below width q ≡ false → width ≤ q
past width q h = grind (arith, nat_tests)

absent : (h : HostOf) (q : ℕ) → hosts.IsValid h → h.width ≤ q → fin.get h.frames q ≡ None
absent h q valid le = go (fin.get h.frames q) refl
  where
    go : (o : Option HostFrame) → fin.get h.frames q ≡ o → o ≡ None
    go None e = refl
    go (Some f) e = absurd (let inside = (valid.frames q f e).inside in omega arith)

pub sent_start : (s : MachineState) (set : Pfns) (notes : Notes) → IsValidState s → s.history ≡ no_history → set ≡ all_below s.host.width → notes ≡ no_notes → LiveSent s set [] notes
sent_start s set notes valid unread all none = record {
  order = ap (rounds_read s.host.width) (sym (ap (λ (h : History). h.taken) unread));
  told = tt;
  current = λ h. record {
    same = λ q r c. fin.get-empty nat_cmp q ∙ sym (ap (λ o. frame_sent (judged (option_map (footprint_of s.host.frames) o))) (gone q r));
    kept = λ q r c. ap (λ (n : Notes). n.deferred q) none ∙ sym (ap (λ o. is_deferred (judged (option_map (footprint_of s.host.frames) o))) (gone q r));
    types = λ q r c. ap (λ (n : Notes). n.types q) none ∙ sym (ap (λ o. type_of_print (option_map (footprint_of s.host.frames) o)) (gone q r));
  };
}
  where
    gone : (q : ℕ) → set q ≡ false → fin.get s.host.frames q ≡ None
    gone q r = absent s.host q valid.host (past s.host.width q (sym (ap (λ (p : Pfns). p q) all) ∙ r))
