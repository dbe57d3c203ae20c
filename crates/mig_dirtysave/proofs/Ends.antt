-- What a save has written where it stopped early.
use Rattle.mig_dirtysave.proofs.Common.{◌≡◌, ℕ, ◌+◌, ◌≤◌, Bool, true, false, List, [], ◌∷◌, ◌++◌, take, map, Option, refl, sym, ap, subst, ◌∙◌, arith, append_assoc, append-nil, inl, inr, AllByRecursion, Appends, append_known, Appends-trans, AppendsPart, Kind, Unsound, IsFormed, GuestOf, PartMap, spelled, Record, text_of, headers, text_join, text_one, has_emulators, opening_text, wrapper_opening, wrapper_closing, FrameTold, telling_record, WroteAll, WroteSome, IsRecordWithin, AreRecordsWithin, History, MachineState, entries_read, FramesSaved, text_before, ClosesStream, WroteNoStream, first_records, first_within, some_records, part_behind, IsLittleBehind, is_of_converter, opening_none, opening_some, HostOf, IsOtherRecord, MostSent, TellMost, others_are, all_behind, some_behind, no_history, StopsBehind, are_within, appends_first, WroteMost}
use Rattle.mig_dirtysave_rounds.proofs.Saves.{size_none}
use Rattle.mig_dirtysave.proofs.Written.{bare_headers, bare_some, wrapped_behind, wrapped_headers, wrapped_opening, wrapped_some}
use Rattle.mig_dirtysave.proofs.Wrappers.{closing_cut}

-- the headers of an image were written, records, some of which are those of batches that tell most of what was read, and a
-- part of one more, perhaps none
pub record CutImage (start new : Option (List ℕ)) (h : HostOf) (k : History) : Type 0 where
  pub opened : Option (List ℕ)
  pub before : List Record
  pub batches : List (List FrameTold)
  pub behind : List Record
  pub heads : Appends start opened (headers h.kind)
  pub wrote : WroteSome opened new (before ++ (map telling_record batches ++ behind))
  pub others : AllByRecursion IsOtherRecord before
  pub most : TellMost h.kind h.width k batches

-- the same with END behind them
pub record WholeImage (start ended : Option (List ℕ)) (h : HostOf) (k : History) : Type 0 where
  pub opened : Option (List ℕ)
  pub full : Option (List ℕ)
  pub before : List Record
  pub batches : List (List FrameTold)
  pub behind : List Record
  pub heads : Appends start opened (headers h.kind)
  pub wrote : WroteAll opened full (before ++ (map telling_record batches ++ behind))
  pub last : Appends full ended (spelled 0 [])
  pub others : AllByRecursion IsOtherRecord before
  pub most : TellMost h.kind h.width k batches

-- Where a save stopped: in what stands before the image, in the headers, among the records before the frames, among those from
-- the frames on, or behind the image.
pub data Stopped (old new : Option (List ℕ)) (h : HostOf) (k : History) : Type 0 where
  before_image : AppendsPart old new (wrapper_opening h.parts) → entries_read h.width k ≤ 1024 → Stopped old new h k
  in_headers : (start : Option (List ℕ)) (kind : Kind) → Appends old start (wrapper_opening h.parts) → AppendsPart start new (headers kind) → entries_read h.width k ≤ 1024 → Stopped old new h k
  before_frames : (start opened : Option (List ℕ)) (kind : Kind) (rs : List Record) → Appends old start (wrapper_opening h.parts) → Appends start opened (headers kind) → WroteSome opened new rs
      → entries_read h.width k ≤ 1024 → Stopped old new h k
  in_image : (start : Option (List ℕ)) → Appends old start (wrapper_opening h.parts) → CutImage start new h k → Stopped old new h k
  behind_image : (start ended : Option (List ℕ)) (rs : List Record) → Appends old start (wrapper_opening h.parts) → has_emulators h.parts ≡ true → WholeImage start ended h k → WroteSome ended new rs → Stopped old new h k

-- ---- it's no stream

module _ (old new : Option (List ℕ)) (parts : PartMap) where
  bare_start : (start : Option (List ℕ)) → has_emulators parts ≡ false → Appends old start (wrapper_opening parts) → Appends old start []
  bare_start start none a = subst (Appends old start) (opening_none parts none) a

  some_start : (start : Option (List ℕ)) → has_emulators parts ≡ true → Appends old start (wrapper_opening parts) → Appends old start (opening_text (is_of_converter parts))
  some_start start some a = subst (Appends old start) (opening_some parts some) a

  in_opening : (b : Bool) → has_emulators parts ≡ b → AppendsPart old new (wrapper_opening parts) → WroteNoStream old new
  in_opening true some p = wrapped_opening old new (is_of_converter parts) (subst (AppendsPart old new) (opening_some parts some) p)
  in_opening false none p = let (n, less, a) = subst (AppendsPart old new) (opening_none parts none) p in absurd (omega (arith, less))

  in_heads : (start : Option (List ℕ)) (kind : Kind) (b : Bool) → has_emulators parts ≡ b → Appends old start (wrapper_opening parts) → AppendsPart start new (headers kind) → WroteNoStream old new
  in_heads start kind true some a p = wrapped_headers old start new (is_of_converter parts) kind (some_start start some a) p
  in_heads start kind false none a (n, less, part) = bare_headers old new kind (n, less, Appends-trans old start new [] (take n (headers kind)) (bare_start start none a) part)

  among : (start opened : Option (List ℕ)) (kind : Kind) (rs : List Record) (b : Bool) → has_emulators parts ≡ b → Appends old start (wrapper_opening parts) → Appends start opened (headers kind) → WroteSome opened new rs → WroteNoStream old new
  among start opened kind rs true some a heads wrote = wrapped_some old start opened new (is_of_converter parts) kind rs (some_start start some a) heads wrote
  among start opened kind rs false none a heads wrote = bare_some old opened new kind rs (Appends-trans old start opened [] (headers kind) (bare_start start none a) heads) wrote

pub stopped_no_stream : (old new : Option (List ℕ)) (h : HostOf) (k : History) → Stopped old new h k → WroteNoStream old new
stopped_no_stream old new h k (before_image p few) = in_opening old new h.parts (has_emulators h.parts) refl p
stopped_no_stream old new h k (in_headers start kind a p few) = in_heads old new h.parts start kind (has_emulators h.parts) refl a p
stopped_no_stream old new h k (before_frames start opened kind rs a heads wrote few) = among old new h.parts start opened kind rs (has_emulators h.parts) refl a heads wrote
stopped_no_stream old new h k (in_image start a w) = among old new h.parts start w.opened h.kind (w.before ++ (map telling_record w.batches ++ w.behind)) (has_emulators h.parts) refl a w.heads w.wrote
stopped_no_stream old new h k (behind_image start ended rs a some w p) =
    wrapped_behind old start ended new (is_of_converter h.parts) rs (some_start old new h.parts start some a)
    (record { kind = h.kind; opened = w.opened; ended = w.full; records = w.before ++ (map telling_record w.batches ++ w.behind); heads = w.heads; wrote = w.wrote; last = w.last })
    p

-- ---- little is left out of it

split : (before pages behind : List Record) (more : List ℕ) → text_of (before ++ (pages ++ behind)) ++ more ≡ text_of (before ++ pages) ++ (text_of behind ++ more)
split before pages behind more =
    ap (λ rs. text_of rs ++ more) (sym (append_assoc before pages behind)) ∙ ap (λ l. l ++ more) (text_join (before ++ pages) behind)
    ∙ append_assoc (text_of (before ++ pages)) (text_of behind) more

in_front : (P : Record → Type 0) (rs ss : List Record) → AllByRecursion P (rs ++ ss) → AllByRecursion P rs
in_front P [] ss all = tt
in_front P (r ∷ rs) ss all = (all.0, in_front P rs ss all.1)

module _ (old new : Option (List ℕ)) (h : HostOf) (k : History) (start opened : Option (List ℕ)) (before : List Record) (batches : List (List FrameTold)) (behind : List Record) where
  abbrev pages : List Record
  pages = map telling_record batches

  wrote_most : (more : List ℕ) → Appends old start (wrapper_opening h.parts) → Appends start opened (headers h.kind) → Appends opened new (text_of (before ++ (pages ++ behind)) ++ more)
      → AreRecordsWithin (before ++ (pages ++ behind)) → AllByRecursion IsOtherRecord before → TellMost h.kind h.width k batches → WroteMost old new h k
  wrote_most more a heads wrote within others most = record {
    before = before;
    batches = batches;
    rest = text_of behind ++ more;
    others = others;
    within = in_front IsRecordWithin (before ++ pages) behind (subst AreRecordsWithin (sym (append_assoc before pages behind)) within);
    appended = subst (λ l. Appends old new (wrapper_opening h.parts ++ (headers h.kind ++ l))) (split before pages behind more) (Appends-trans old start new _ _ a (Appends-trans start opened new _ _ heads wrote));
    most = most;
  }

pub stopped_behind : (old new : Option (List ℕ)) (h : HostOf) (k : History) → Stopped old new h k → IsLittleBehind old new h k
stopped_behind old new h k (before_image p few) = inl few
stopped_behind old new h k (in_headers start kind a p few) = inl few
stopped_behind old new h k (before_frames start opened kind rs a heads wrote few) = inl few
stopped_behind old new h k (in_image start a w) = inr (wrote_most old new h k start w.opened w.before w.batches w.behind _ a w.heads w.wrote.appended w.wrote.within w.others w.most)
stopped_behind old new h k (behind_image start ended rs a some w p) =
    inr (wrote_most old new h k start w.opened w.before w.batches w.behind _ a w.heads (Appends-trans w.opened w.full new _ _ w.wrote.appended (Appends-trans w.full ended new _ _ w.last p.appended)) w.wrote.within w.others w.most)

-- nothing was read yet
pub nothing_read : (width : ℕ) (h : History) → h ≡ no_history → entries_read width h ≡ 0
nothing_read width h is = omega (arith, ap (entries_read width) is, size_none width)

-- nothing was written but a part of what stands before the image
pub stopped_opening : (old new : Option (List ℕ)) (h : HostOf) (k : History) (held : PartMap) → wrapper_opening held ≡ wrapper_opening h.parts → entries_read h.width k ≤ 1024 → AppendsPart old new (wrapper_opening held) → Stopped old new h k
stopped_opening old new h k held same few p = before_image (subst (AppendsPart old new) same p) few

module _ (old start mid : Option (List ℕ)) (h : HostOf) (k : History) (begun : Appends old start (wrapper_opening h.parts)) (early : GuestOf) (formed : IsFormed early) where
  abbrev first : List Record
  first = first_records early

  abbrev opened : Option (List ℕ)
  opened = append_known start (headers early.kind)

  -- in what stands before the frames
  pub stopped_first : entries_read h.width k ≤ 1024 → AppendsPart start mid (text_before early) → Stopped old mid h k
  stopped_first few p = elim (part_behind start mid (headers early.kind) first p) [
    | inl part ↦ in_headers start early.kind begun part few
    | inr (heads, part) ↦
        let (front, some) = some_records opened mid first (are_within first (first_within early formed)) part in
        before_frames start opened early.kind front begun heads some few
  ]

  module _ (kind : early.kind ≡ h.kind) (a : Appends start mid (text_before early)) where
    heads : Appends start opened (headers h.kind)
    heads = subst (λ (x : Kind). Appends start opened (headers x)) kind (appends_first start mid (headers early.kind) (text_of first) a).0

    whole : WroteAll opened mid first
    whole = record { appended = (appends_first start mid (headers early.kind) (text_of first) a).1; within = are_within first (first_within early formed) }

    others : AllByRecursion IsOtherRecord first
    others = others_are first (first_within early formed)

    -- among the frames
    pub stopped_frames : (new : Option (List ℕ)) → MostSent mid new h.kind h.width k → Stopped old new h k
    stopped_frames new b =
        let batches = map telling_record b.batches in
        in_image start begun (record {
          opened = opened;
          before = first;
          batches = b.batches;
          behind = [];
          heads = heads;
          wrote = subst (WroteSome opened new) (ap (λ (l : List Record). first ++ l) (sym (append-nil batches))) (some_behind opened mid new first batches whole b.cut.wrote);
          others = others;
          most = b.most;
        })

    module _ (sent : Option (List ℕ)) (t : MachineState) (u : Option Unsound) (s : FramesSaved mid sent t u) (most : TellMost h.kind h.width k s.batches) where
      abbrev batched : List Record
      batched = map telling_record s.batches

      so_far : WroteAll opened sent (first ++ batched)
      so_far = all_behind opened mid sent first batched whole s.written.wrote

      -- behind them
      pub stopped_last : (new : Option (List ℕ)) → StopsBehind sent new → Stopped old new h k
      stopped_last new stops =
          let (more, some) = stops opened (first ++ batched) so_far in
          in_image start begun (record {
            opened = opened;
            before = first;
            batches = s.batches;
            behind = more;
            heads = heads;
            wrote = subst (WroteSome opened new) (append_assoc first batched more) some;
            others = others;
            most = most;
          })

      -- behind the image
      module _ (ended : Option (List ℕ)) (closed : ClosesStream t.host sent ended) where
        abbrev full : Option (List ℕ)
        full = append_known sent (text_of closed.behind)

        both : Appends sent full (text_of closed.behind) × Appends full ended (spelled 0 [])
        both = appends_first sent ended (text_of closed.behind) (spelled 0 [])
            (subst (Appends sent ended) (text_join closed.behind ((0, []) ∷ []) ∙ ap (λ l. text_of closed.behind ++ l) (text_one 0 [])) closed.appended)

        pub stopped_closing : (new : Option (List ℕ)) (held : GuestOf) → IsFormed held → has_emulators held.parts ≡ has_emulators h.parts → AppendsPart ended new (wrapper_closing held.parts) → Stopped old new h k
        stopped_closing new held shape same p =
            let (some, (rs, cut)) = closing_cut held shape ended new p in
            behind_image start ended rs begun (sym same ∙ some)
            (record {
              opened = opened;
              full = full;
              before = first;
              batches = s.batches;
              behind = closed.behind;
              heads = heads;
              wrote = subst (WroteAll opened full) (append_assoc first batched closed.behind) (all_behind opened sent full (first ++ batched) closed.behind so_far (record { appended = both.0; within = closed.within }));
              last = both.1;
              others = others;
              most = most;
            })
            cut
