-- An entry of a record is noted with the place of its page.
use Rattle.mig_restore.proofs.Common.{◌≡◌, ◌<◌, ◌+◌, ◌-◌, ◌++◌, ℕ, List, length, take, drop, Bool, true, false, cond, Option, Some, None, Result, Ok, Err, refl, sym, ap, subst, ◌∙◌, arith, append_assoc, part, tried, ◌>>=◌, AgreesWithJudging, Passes, Stop, Cause, Truncated, Kind, PageType, FrameMap, FrameEntry, word_pfn, word_has_data, type_in_word, type_has_data, type_in_guest, entry_at, fault_of_page, put_entry, framed, take-append-drop, same_Some, carries, any_stop, []}
use Rattle.mig_placing.proofs.Common.{IfSome, left_at, ValueMap, ArePlaced}
use Rattle.std.specs.FinMap as maps
use Rattle.std.proofs.Common.{length-append}
use Rattle.mig_bytes.proofs.Joins.{both_pass, part_passes, same_passes}
use Rattle.mig_headers.specs.declared.kind.Kind.TheVariants.{Pv, Hvm}
use Rattle.mig_pagetypes.specs.declared.page_type.PageType.TheVariants.{Broken, Xalloc, Xtab}
use Rattle.mig_restore_form.specs.Judging.{page_at}
use Rattle.mig_placed.proofs.Seen.{no_page_at_0, none_placed, page_stands, set_placed}
use Rattle.mig_placed.specs.InFile.{frames_in_file, page_in_file, place_for, place_limit, with_place}

-- no frames, with nothing read
pub none_noted : (file : Option (List ℕ)) (cells : ValueMap) (all : List ℕ) (at : ℕ) → cells ≡ maps.empty → file ≡ Some all → ArePlaced file cells all (left_at file at) maps.empty
none_noted file cells all at none told = record {
  told = told;
  front = take at all;
  rest = drop at all;
  whole = sym (take-append-drop at all);
  behind = ap (λ (o : Option (List ℕ)). left_at o at) told;
  read = ap (frames_in_file (Some all)) none ∙ none_placed (Some all);
}

-- what is noted stays so as the file is read on
pub noted_on : (file : Option (List ℕ)) (cells : ValueMap) (all front rest : List ℕ) (frames : FrameMap) → ArePlaced file cells all (Some (front ++ rest)) frames → ArePlaced file cells all (Some rest) frames
noted_on file cells all front rest frames noted = record {
  told = noted.told;
  front = noted.front ++ front;
  rest = rest;
  whole = noted.whole ∙ ap (λ l. noted.front ++ l) (sym (same_Some (front ++ rest) noted.rest noted.behind)) ∙ sym (append_assoc noted.front front rest);
  behind = refl;
  read = noted.read;
}

-- ---- what an entry takes

abbrev entry_of : ℕ → Option (List ℕ) → FrameEntry
entry_of w page = record { pfn = word_pfn w; type = type_in_word w; page = page }

-- the page that an entry has, and what is left behind it
pub record IsPageOf (some : Bool) (i : List ℕ) (page : Option (List ℕ)) (rest : List ℕ) : Type 0 where
  pub front : List ℕ
  pub is : i ≡ front ++ rest
  pub whole : some ≡ true → (page ≡ Some front) × (length front ≡ 4096)
  pub none : some ≡ false → page ≡ None

module _ (fault : List ℕ → Option Cause) (i : List ℕ) (page : Option (List ℕ)) (rest : List ℕ) where
  page_by : (b : Bool) → cond b (part Truncated 4096 i >>= λ p. tried (fault p.0) p.1 >>= λ _. Passes (Some p.0) p.1) (Passes None i) ≡ Passes page rest → IsPageOf b i page rest
  page_by false h =
      let e = same_passes None page i rest h in
      record { front = []; is = e.1; whole = λ is. absurd (cc); none = λ _. sym e.0 }
  page_by true h =
      let a = both_pass (part Truncated 4096 i) (λ p. tried (fault p.0) p.1 >>= λ _. Passes (Some p.0) p.1) page rest h in
      let b = both_pass (tried (fault a.x) a.mid) (λ _. Passes (Some a.x) a.mid) page rest a.second in
      let e = same_passes (Some a.x) page a.mid rest b.second in
      let p = part_passes Truncated 4096 i a.x a.mid a.first in
      record { front = a.x; is = p.0 ∙ ap (λ l. a.x ++ l) e.1; whole = λ _. (sym e.0, p.1); none = λ is. absurd (cc) }

record IsEntryOf (w : ℕ) (i : List ℕ) (e : FrameEntry) (rest : List ℕ) : Type 0 where
  pub page : IsPageOf (word_has_data w) i e.page rest
  pub is : entry_of w e.page ≡ e

entry_is : (kind : Kind) (top place w : ℕ) (i : List ℕ) (e : FrameEntry) (rest : List ℕ) → entry_at kind top (place, w) i ≡ Passes e rest → IsEntryOf w i e rest
entry_is kind top place w i e rest h =
    let a = both_pass (page_at kind top (place, w) i) (λ page. Passes (entry_of w page.0) page.1) e rest h in
    let s = same_passes (entry_of w a.x) e a.mid rest a.second in
    let p : IsPageOf (word_has_data w) i a.x a.mid = page_by (fault_of_page kind top (place, w)) i a.x a.mid (word_has_data w) a.first in
    let page : a.x ≡ e.page = ap (λ (x : FrameEntry). x.page) s.0 in
    record {
      page = subst (λ (x : Option (List ℕ)). IsPageOf (word_has_data w) i x rest) page (subst (λ (r : List ℕ). IsPageOf (word_has_data w) i a.x r) s.1 p);
      is = ap (entry_of w) (sym page) ∙ s.0;
    }

-- ---- its place

same_data : (kind : Kind) (t : PageType) → type_has_data (type_in_guest kind t) ≡ type_has_data t
same_data Pv t = refl
same_data Hvm Broken = refl
same_data Hvm Xalloc = refl
same_data Hvm Xtab = refl
same_data Hvm _ = refl

page_noted : (all before i rest : List ℕ) (page : Option (List ℕ)) (b : Bool) (at : ℕ) → all ≡ before ++ i → at ≡ length before → IsPageOf b i page rest → page_in_file (Some all) (place_for b at) ≡ page
page_noted all before i rest page false at is here p = no_page_at_0 (Some all) ∙ sym (p.none refl)
page_noted all before i rest page true at is here p =
    let whole = p.whole refl in
    (λ j. page_in_file (Some ((is ∙ ap (λ l. before ++ l) p.is) j)) (here j + 1)) ∙ page_stands before p.front rest whole.1 ∙ sym whole.0

module _ (file : Option (List ℕ)) (cells new : ValueMap) (kind : Kind) (top place w pfn at size rest : ℕ) (type : PageType) (small : at < place_limit)
    (number : pfn ≡ word_pfn w) (means : type ≡ type_in_guest kind (type_in_word w)) (set : new ≡ with_place cells pfn type at) (sized : IfSome file (λ all. size ≡ length all)) (is : at ≡ size - rest) where
  entry_placed : (all i behind : List ℕ) (frames : FrameMap) (e : FrameEntry) → rest ≡ length i → entry_at kind top (place, w) i ≡ Passes e behind → ArePlaced file cells all (Some i) frames → ArePlaced file new all (Some behind) (put_entry kind frames e)
  entry_placed all i behind frames e left judged noted =
      let entry = entry_is kind top place w i e behind judged in
      let whole : all ≡ noted.front ++ i = noted.whole ∙ ap (λ l. noted.front ++ l) (sym (same_Some i noted.rest noted.behind)) in
      let full : size ≡ length all = subst (λ (o : Option (List ℕ)). IfSome o (λ all. size ≡ length all)) noted.told sized in
      let here : at ≡ length noted.front = omega (arith, is, full, left, ap length whole, length-append noted.front i) in
      let data_there : word_has_data w ≡ type_has_data type = carries w ∙ sym (same_data kind (type_in_word w)) ∙ ap type_has_data (sym means) in
      let page : page_in_file (Some all) (place_for (type_has_data type) at) ≡ e.page =
      page_noted all noted.front i behind e.page (type_has_data type) at whole here (subst (λ (b : Bool). IsPageOf b i e.page behind) data_there entry.page) in
      record {
        told = noted.told;
        front = noted.front ++ entry.page.front;
        rest = behind;
        whole = whole ∙ ap (λ l. noted.front ++ l) entry.page.is ∙ sym (append_assoc noted.front entry.page.front behind);
        behind = refl;
        read =
            ap (frames_in_file (Some all)) set ∙ set_placed (Some all) cells pfn type at small
            ∙ (λ j. framed (noted.read j) (number j) (means j) (page j))
            ∙ ap (λ (x : FrameEntry). framed frames x.pfn (type_in_guest kind x.type) e.page) entry.is;
      }

  pub entry_noted : {X : Type 0} (R : X → FrameEntry → Type 0) (a b : Option (List ℕ)) (r : Result X (Stop Cause)) → IfSome a (λ i. rest ≡ length i) → AgreesWithJudging R a b (entry_at kind top (place, w)) r
      → AgreesWithJudging {X = X} (λ _ e. (all : List ℕ) (frames : FrameMap) → ArePlaced file cells all a frames → ArePlaced file new all b (put_entry kind frames e)) a b (entry_at kind top (place, w)) r
  entry_noted R None b r left h = tt
  entry_noted R (Some i) b (Ok x) left (e, behind, judged, told, given) =
      (e, behind, judged, told, λ all frames noted. subst (λ (o : Option (List ℕ)). ArePlaced file new all o (put_entry kind frames e)) (sym told) (entry_placed all i behind frames e left judged noted))
  entry_noted {X = X} R (Some i) b (Err e) left h = any_stop R (λ (_ : X) e. (all : List ℕ) (frames : FrameMap) → ArePlaced file cells all (Some i) frames → ArePlaced file new all b (put_entry kind frames e)) (Some i) b (entry_at kind top (place, w)) e h
