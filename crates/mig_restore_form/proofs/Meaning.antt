-- What one more entry, or one more record, means; and that of each frame number and of each part the last decides.
use Rattle.mig_restore_form.proofs.Common.{is_ended, types_of, map-append, ◌||◌, ◌≡◌, ℕ, List, [], ◌∷◌, ◌++◌, Bool, true, false, cond, not, nat_eq, Option, Some, None, refl, sym, ap, ◌∙◌, arith, unwrap_or, common_steps, Kind, PageType, GuestOf, part_cmp, Part, PartMap, put_part, put_parts, nat_le, ◌≤◌, ◌≢◌, ◌⊎◌, inl, inr, subst, All, p2m_key, set_p2m, word_pfn, type_in_word, FrameEntry, StreamRecord, Content, Nothing, Frames, Sets, Lists, Checks, code_number, type_in_guest, put_entry, put_entries, put_content, empty_guest, entries_in, entries_of, frame_in, last_bytes, parts_say_of_part, policy_says_of_part, says_of_part, All-nil, All-cons, option_or, nat_cmp, eq_by_cmp, nat_cmp_total, PartKey, listed_over, is_policy, FrameMap, FrameOf, framed, tied, part_total, part_exact, blank, list_any-append, option_and_then, fold, Contains, list_any, replace_code, le_refl, All-append, Contains-append_left, Contains-append_right, fold-append, greater}
use Rattle.mig_restore_form.specs.Mean.{ends_in, ends_of, put_entries_by, put_record, last_entry, same_key, last_said, sent, mean}
use Rattle.std.specs.FinMap as fin
use Rattle.mig_records.proofs.P2mFormed.{above}

pub one_more_entry : (put : Kind → FrameMap → FrameEntry → FrameMap) (g h k : GuestOf) (es : List FrameEntry) (e : FrameEntry) → h ≡ record g { frames = put_entries_by put g.kind g.frames es } → k ≡ record h { frames = put h.kind h.frames e }
    → k ≡ record g { frames = put_entries_by put g.kind g.frames (es ++ e ∷ []) }
one_more_entry put g h k es e before now =
    now ∙ ap (λ (w : GuestOf). record w { frames = put w.kind w.frames e }) before
    ∙ ap (λ (f : FrameMap). record g { frames = f }) (sym (fold-append (put g.kind) g.frames es (e ∷ [])))

-- a frame that is set as a word says
pub entry_set : (g n : GuestOf) (w pfn : ℕ) (meant : PageType) (page : Option (List ℕ)) → pfn ≡ word_pfn w → meant ≡ type_in_guest g.kind (type_in_word w) → n ≡ record g { frames = framed g.frames pfn meant page }
    → n ≡ record g { frames = put_entry g.kind g.frames (record { pfn = word_pfn w; type = type_in_word w; page = page }) }
entry_set g n w pfn meant page at is now =
    now ∙ ap (λ p. record g { frames = framed g.frames p meant page }) at ∙ ap (λ (t : PageType). record g { frames = framed g.frames (word_pfn w) t page }) is

pub one_more_record : (kind : Kind) (rs : List StreamRecord) (r : StreamRecord) → sent kind (rs ++ r ∷ []) ≡ put_record (sent kind rs) r
unfolding sent
one_more_record kind rs r = fold-append put_record (empty_guest kind) rs (r ∷ [])

-- ---- a record keeps the kind

folded_kind : (g : GuestOf) (rs : List StreamRecord) → (fold put_record g rs).kind ≡ g.kind
folded_kind g [] = refl
folded_kind g (r ∷ rs) = grind (arith, common_steps, folded_kind (put_record g r) rs)

pub sent_kind : (kind : Kind) (rs : List StreamRecord) → (sent kind rs).kind ≡ kind
unfolding sent
sent_kind kind rs = folded_kind (empty_guest kind) rs

pub mean_kind : (kind : Kind) (rs : List StreamRecord) → (mean kind rs).kind ≡ kind
unfolding mean
mean_kind kind rs = grind (arith, common_steps, sent_kind kind rs)

-- the blank form of what is sent is meant
pub meant_as_sent : (g : GuestOf) (kind : Kind) (rs : List StreamRecord) → g ≡ sent kind rs → blank g ≡ mean kind rs
unfolding mean
meant_as_sent g kind rs is = ap blank is

-- ---- of each frame number the last entry decides

pub ties : (p q : ℕ) → eq_by_cmp nat_cmp p q ≡ nat_eq q p
ties p q = grind (arith, common_steps)

pub got : (kind : Kind) (m : FrameMap) (p : ℕ) (e : FrameEntry) → fin.get (put_entry kind m e) p ≡ cond (nat_eq e.pfn p) (frame_in kind e) (fin.get m p)
got kind m p e = grind (arith, common_steps, ties p e.pfn, fin.get-remove nat_cmp_total m e.pfn p, fin.get-insert nat_cmp_total m e.pfn (record { type = type_in_guest kind e.type; page = e.page }) p)

abbrev otherwise : Kind → Option FrameEntry → Option FrameOf → Option FrameOf
otherwise kind None before = before
otherwise kind (Some e) before = frame_in kind e

folded : (kind : Kind) (m : FrameMap) (p : ℕ) (es : List FrameEntry) → fin.get (put_entries kind m es) p ≡ otherwise kind (last_entry p es) (fin.get m p)
folded kind m p [] = refl
folded kind m p (e ∷ es) = grind (arith, common_steps, folded kind (put_entry kind m e) p es, got kind m p e)

folded_frames : (g : GuestOf) (rs : List StreamRecord) → (fold put_record g rs).frames ≡ put_entries g.kind g.frames (entries_of rs)
folded_frames g [] = refl
folded_frames g (r ∷ rs) = grind (arith, common_steps, folded_frames (put_record g r) rs, fold-append (put_entry g.kind) g.frames (entries_in r.content) (entries_of rs))

-- the frames are those of all entries
pub sent_frames : (kind : Kind) (records : List StreamRecord) → (sent kind records).frames ≡ put_entries kind fin.empty (entries_of records)
unfolding sent
sent_frames kind records = folded_frames (empty_guest kind) records

pub last_entry_is : (kind : Kind) (records : List StreamRecord) (pfn : ℕ) → fin.get (sent kind records).frames pfn ≡ option_and_then (frame_in kind) (last_entry pfn (entries_of records))
last_entry_is kind records pfn =
    ap (λ m. fin.get m pfn) (sent_frames kind records) ∙ grind (arith, common_steps, folded kind fin.empty pfn (entries_of records), fin.get-empty {X = FrameOf} nat_cmp pfn)

-- ---- of each part the last content decides

pub part_ties : (q k : PartKey) → eq_by_cmp part_cmp q k ≡ same_key k q
part_ties q k = grind (arith, common_steps)

pub parts_got : (m : PartMap) (ps : List (PartKey × List ℕ)) (q : PartKey) → fin.get (put_parts m ps) q ≡ option_or (last_bytes q ps) (fin.get m q)
parts_got m [] q = refl
parts_got m (p ∷ ps) q = grind (arith, common_steps, parts_got (put_part m p) ps q, fin.get-insert part_total m p.0 p.1 q, part_ties q p.0)

cleared : (m : PartMap) (code : ℕ) (q : PartKey) → fin.get (fin.retain_keys m (λ k. not (nat_eq k.code code))) q ≡ cond (not (nat_eq q.code code)) (fin.get m q) None
cleared m code q = fin.get-retain_keys m (λ k. not (nat_eq k.code code)) q (λ k e. ap (λ (x : PartKey). not (nat_eq x.code code)) (sym (part_exact q k e)))

replaced : (m : PartMap) (code : ℕ) (ps : List Part) (q : PartKey) → fin.get (replace_code code m ps) q ≡ unwrap_or (policy_says_of_part q code ps) (fin.get m q)
replaced m code [] q = refl
replaced m code (p ∷ ps) q = grind (arith, common_steps, parts_got (fin.retain_keys m (λ k. not (nat_eq k.code code))) (p ∷ ps) q, cleared m code q)

sets_said : (m : PartMap) (b : Bool) (code : ℕ) (ps : List Part) (q : PartKey)
    → fin.get (cond b (replace_code code m ps) (put_parts m ps)) q ≡ unwrap_or (cond b (policy_says_of_part q code ps) (parts_say_of_part q ps)) (fin.get m q)
sets_said m true code ps q = replaced m code ps q
sets_said m false code ps q = grind (arith, common_steps, parts_got m ps q)

-- a list of P2M frames says nothing of other parts
not_list : (g : GuestOf) (last : ℕ) (frames : List ℕ) (q : PartKey) → q ≢ p2m_key → fin.get (set_p2m last frames g).parts q ≡ fin.get g.parts q
not_list g last frames q other =
    fin.get-insert part_total g.parts p2m_key (listed_over frames (fin.get g.parts p2m_key)) q ∙ by (eq_by_cmp part_cmp q p2m_key) refl
  where
    by : (b : Bool) → eq_by_cmp part_cmp q p2m_key ≡ b → cond b (Some (listed_over frames (fin.get g.parts p2m_key))) (fin.get g.parts q) ≡ fin.get g.parts q
    by true is = absurd (other (part_exact q p2m_key (tied (part_cmp q p2m_key) is)))
    by false is = refl

pub said : (g : GuestOf) (c : Content) (q : PartKey) → ((last : ℕ) (frames : List ℕ) → c ≡ Lists last frames → q ≢ p2m_key) → fin.get (put_content g c).parts q ≡ unwrap_or (says_of_part q c) (fin.get g.parts q)
said g Nothing q other = refl
said g (Frames es) q other = refl
said g (Sets code ps) q other = sets_said g.parts (is_policy (code_number code)) (code_number code) ps q
said g (Lists last frames) q other = not_list g last frames q (other last frames refl)
said g (Checks es) q other = refl

folded_parts : (g : GuestOf) (rs : List StreamRecord) (q : PartKey) → q ≢ p2m_key → fin.get (fold put_record g rs).parts q ≡ unwrap_or (last_said q rs) (fin.get g.parts q)
folded_parts g [] q other = refl
folded_parts g (r ∷ rs) q other =
    folded_parts (put_record g r) rs q other ∙ ap (unwrap_or (last_said q rs)) (said g r.content q (λ _ _ _. other)) ∙ twice (last_said q rs) (says_of_part q r.content) (fin.get g.parts q)
  where
    twice : (a b : Option (Option (List ℕ))) (o : Option (List ℕ)) → unwrap_or a (unwrap_or b o) ≡ unwrap_or (option_or a b) o
    twice None b o = refl
    twice (Some x) b o = refl

pub last_content_is : (kind : Kind) (records : List StreamRecord) (q : PartKey) → q ≢ p2m_key → fin.get (sent kind records).parts q ≡ unwrap_or (last_said q records) None
unfolding sent
last_content_is kind records q other =
    folded_parts (empty_guest kind) records q other ∙ ap (unwrap_or (last_said q records)) (fin.get-empty part_cmp q)

-- ---- of the ends of lists the greatest decides

greater_is : (m n : ℕ) → (greater m n ≡ m) ⊎ (greater m n ≡ n)
greater_is m n = elim (nat_le m n) as (λ b. (cond b n m ≡ m) ⊎ (cond b n m ≡ n)) [ true ↦ inr refl | false ↦ inl refl ]

-- what follows adds to the ends; those of the guest before count as its top
abbrev IsGreatestOf : ℕ → List ℕ → ℕ → Type 0
IsGreatestOf before ends top = (before ≤ top) × All (λ last. last ≤ top) ends × ((top ≡ before) ⊎ Contains ends top)

ends_here : (g : GuestOf) (c : Content) → IsGreatestOf g.top (ends_in c) (put_content g c).top
ends_here g (Lists last frames) =
    ((above g.top last).0, All-cons (λ n. n ≤ greater g.top last) last [] (above g.top last).1 (All-nil (λ n. n ≤ greater g.top last)), elim (greater_is g.top last) [ inl e ↦ inl e | inr e ↦ inr (0, omega arith, sym e) ])
ends_here g Nothing = (le_refl g.top, All-nil (λ n. n ≤ g.top), inl refl)
ends_here g (Frames es) = (le_refl g.top, All-nil (λ n. n ≤ g.top), inl refl)
ends_here g (Sets code ps) = (le_refl g.top, All-nil (λ n. n ≤ g.top), inl refl)
ends_here g (Checks es) = (le_refl g.top, All-nil (λ n. n ≤ g.top), inl refl)

ends_join : (a b c : ℕ) (xs ys : List ℕ) → IsGreatestOf a xs b → IsGreatestOf b ys c → IsGreatestOf a (xs ++ ys) c
ends_join a b c xs ys (low, all, is) (low', all', is') = (
  omega (arith, low, low'),
  All-append (λ n. n ≤ c) xs ys (λ k d lt. omega (arith, all k d lt, low')) all',
  elim is' [ inr there ↦ inr (Contains-append_right xs ys c there) | inl e ↦ elim is [ inl f ↦ inl (e ∙ f) | inr there ↦ inr (subst (Contains (xs ++ ys)) (sym e) (Contains-append_left xs ys b there)) ] ],
)

folded_ends : (g : GuestOf) (rs : List StreamRecord) → IsGreatestOf g.top (ends_of rs) (fold put_record g rs).top
folded_ends g [] = (le_refl g.top, All-nil (λ n. n ≤ g.top), inl refl)
folded_ends g (r ∷ rs) = ends_join g.top (put_record g r).top (fold put_record (put_record g r) rs).top (ends_in r.content) (ends_of rs) (ends_here g r.content) (folded_ends (put_record g r) rs)

pub greatest_end_is : (kind : Kind) (records : List StreamRecord) → All (λ last. last ≤ (sent kind records).top) (ends_of records) × (((sent kind records).top ≡ 0) ⊎ Contains (ends_of records) (sent kind records).top)
unfolding sent
greatest_end_is kind records = let (low, all, is) = folded_ends (empty_guest kind) records in (all, is)

-- ---- whether some record ends the image

pub ended_more : (records : List StreamRecord) (r : StreamRecord) → is_ended records ≡ false → is_ended (records ++ r ∷ []) ≡ nat_eq r.type 0
ended_more records r going =
    ap (list_any (λ t. nat_eq t 0)) (map-append (λ (x : StreamRecord). x.type) records (r ∷ [])) ∙ list_any-append (λ t. nat_eq t 0) (types_of records) (r.type ∷ [])
    ∙ ap (λ b. b || (nat_eq r.type 0 || false)) going ∙ grind (arith, common_steps)
