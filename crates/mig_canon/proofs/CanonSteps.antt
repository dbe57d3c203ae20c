-- Records of a canonical stream one after another, each in its place.
use Rattle.mig_canon.proofs.Common.{◌≡◌, ℕ, zero, suc, ◌+◌, ◌*◌, ◌≤◌, ◌<◌, ◌^◌, List, [], ◌∷◌, ◌++◌, length, map, Bool, true, false, nat_eq, Option, Some, None, refl, sym, ap, subst, ◌∙◌, arith, append_assoc, append-nil, length-append, ◌||◌, ◌&&◌, fold, is_some, AllByRecursion, list_any, flat_map, Kind, FrameMap, GuestOf, PartCode, code_number, PartKey, Part, PartMap, IsFormed, shape_of, set_parts, parts_at, contents_by_shape, IsRecordBody, part_body, SayAll, Record, records_of, records_in_order, key_of, part_record, vcpu_codes, vcpu_record, records_of_vcpu, vcpus_below, text_of, StreamRecord, Content, is_ended, Frames, Lists, Nothing, Sets, IsComplete, HasContent, Follows, Spells, flat_map-append, canonical_bodies_say, map-append, RecordType, type_of_number, spelled, sent, canonical_bodies, types_of, placed_content, Checks, put_content, one_more_record, one_more}
use Rattle.std.proofs.lemmas.List.Folds.{list_any-append}
use Rattle.mig_headers.specs.declared.record_type.RecordType.TheVariants.{StaticDataEnd, Verify, X86PvInfo, X86PvP2mFrames}
use Rattle.mig_order.specs.Order.{Earlier, some_earlier, earlier_in, among, content_records, vcpu_records as vcpu_types, fault_after, fault_of_type}
use Rattle.mig_order.proofs.OrderLaw.{faultless_is_in_order}
use Rattle.mig_restore_form.specs.Judging.{Opening}
use Rattle.mig_canon.proofs.CanonMaps.{with_parts}
use Rattle.mig_canon.proofs.CanonOnce.{AtOnce}
use Rattle.mig_canon.proofs.CanonParts.{is_record, Fits, fits_of}
use Rattle.mig_canon.proofs.PvMaps.{set_found, vcpu_set, vcpu_parts, vcpus_more}
use Rattle.std.specs.FinMap as maps

abbrev pub opening : Kind → Opening
opening kind = record { version = 3; kind = kind }

abbrev pub guest_with : Kind → ℕ → FrameMap → PartMap → GuestOf
guest_with kind top frames parts = record { kind = kind; top = top; frames = frames; parts = parts }

-- ---- a record

-- without a VERIFY before it, a record says what its body says
unplaced : (c : Content) → placed_content false c ≡ c
unplaced Nothing = refl
unplaced (Frames es) = refl
unplaced (Sets code ps) = refl
unplaced (Lists last frames) = refl
unplaced (Checks es) = refl

text_more : (bodies : List Record) (type : ℕ) (body : List ℕ) → text_of (bodies ++ (type, body) ∷ []) ≡ text_of bodies ++ spelled type body
text_more bodies type body = flat_map-append (λ (b : Record). spelled b.0 b.1) bodies ((type, body) ∷ []) ∙ ap (λ l. text_of bodies ++ l) (append-nil (spelled type body))

-- ---- the records before

-- where a stream stands: whether X86_PV_INFO, STATIC_DATA_END, X86_PV_P2M_FRAMES and all frames are behind
pub record Stage : Type 0 where
  pub info : Bool
  pub settled : Bool
  pub listed : Bool
  pub framed : Bool

-- what stands before it: content behind STATIC_DATA_END alone, and a vCPU's records behind the frames alone, if at all; and no VERIFY
abbrev pub earlier_at : Stage → Bool → Bool → Earlier
earlier_at stage content vcpu = record { static_data_end = stage.settled; content = stage.settled && content; pv_info = stage.info; p2m_frames = stage.listed; vcpu = stage.framed && vcpu; verify = false }

-- and with a record of this type more
abbrev pub earlier_with : Earlier → ℕ → Earlier
earlier_with e type = record {
  static_data_end = e.static_data_end || (among (StaticDataEnd ∷ []) type || false);
  content = e.content || (among content_records type || false);
  pv_info = e.pv_info || (among (X86PvInfo ∷ []) type || false);
  p2m_frames = e.p2m_frames || (among (X86PvP2mFrames ∷ []) type || false);
  vcpu = e.vcpu || (among vcpu_types type || false);
  verify = e.verify || (among (Verify ∷ []) type || false);
}

-- records with these bodies, that mean this guest, and where they lead; and no more records than these
pub record State (kind : Kind) (bodies : List Record) (g : GuestOf) (stage : Stage) (most : ℕ) : Type 0 where
  pub records : List StreamRecord
  pub spells : Spells (Follows (opening kind)) (text_of bodies) records
  pub means : sent kind records ≡ g
  pub going : is_ended records ≡ false
  pub content : Bool
  pub vcpu : Bool
  pub stands : earlier_in (types_of records) ≡ earlier_at stage content vcpu
  pub few : length records ≤ most

-- a type that may stand at a stage, and leads to the next one
pub record IsStep (kind : Kind) (type : ℕ) (stage next : Stage) : Type 0 where
  pub small : type < 2 ^ 32
  pub ordered : (content vcpu : Bool) → fault_after 3 kind (earlier_at stage content vcpu) type ≡ None
  pub leads : (content vcpu : Bool) → let e = earlier_with (earlier_at stage content vcpu) type in e ≡ earlier_at next e.content e.vcpu

some_more : (kinds : List RecordType) (records : List StreamRecord) (r : StreamRecord) → some_earlier (types_of (records ++ r ∷ [])) kinds ≡ (some_earlier (types_of records) kinds || (among kinds r.type || false))
some_more kinds records r = ap (λ l. some_earlier l kinds) (map-append (λ (x : StreamRecord). x.type) records (r ∷ [])) ∙ list_any-append (among kinds) (types_of records) (r.type ∷ [])

earlier_more : (records : List StreamRecord) (r : StreamRecord) → earlier_in (types_of (records ++ r ∷ [])) ≡ earlier_with (earlier_in (types_of records)) r.type
earlier_more records r = λ i. record {
  static_data_end = some_more (StaticDataEnd ∷ []) records r i;
  content = some_more content_records records r i;
  pv_info = some_more (X86PvInfo ∷ []) records r i;
  p2m_frames = some_more (X86PvP2mFrames ∷ []) records r i;
  vcpu = some_more vcpu_types records r i;
  verify = some_more (Verify ∷ []) records r i;
}

pub ended_more : (records : List StreamRecord) (r : StreamRecord) → is_ended (records ++ r ∷ []) ≡ (is_ended records || (nat_eq r.type 0 || false))
ended_more records r = ap (list_any (λ t. nat_eq t 0)) (map-append (λ (x : StreamRecord). x.type) records (r ∷ [])) ∙ list_any-append (λ t. nat_eq t 0) (types_of records) (r.type ∷ [])

module _ {kind : Kind} {bodies : List Record} {g : GuestOf} {stage : Stage} {most : ℕ} (s : State kind bodies g stage most) where
  pub looser : (n : ℕ) → most ≤ n → State kind bodies g stage n
  looser n h = record { records = s.records; spells = s.spells; means = s.means; going = s.going; content = s.content; vcpu = s.vcpu; stands = s.stands; few = omega (arith, s.few, h) }

  -- the same without a record more
  pub unmoved : State kind (bodies ++ []) g stage (most + 1)
  unmoved = subst (λ l. State kind l g stage (most + 1)) (sym (append-nil bodies)) (looser (most + 1) (omega arith))

  module _ {type : ℕ} {next : Stage} {body : List ℕ} {c : Content} (step : IsStep kind type stage next) (fits : Fits kind g.top type body c) (room : most < 2 ^ 28) where
    abbrev pub this : StreamRecord
    this = record { type = type; content = c }

    in_place : fault_of_type 3 kind (types_of s.records) type ≡ None
    in_place = ap (λ e. fault_after 3 kind e type) s.stands ∙ step.ordered s.content s.vcpu

    follows : (type ≡ 0 → IsComplete kind (sent kind (s.records ++ this ∷ []))) → Follows (opening kind) s.records this (spelled type body)
    follows complete = record {
      body = body;
      is = is_record type body step.small fits.short;
      said = c;
      says = subst (λ (h : GuestOf). HasContent kind h.top type body c) (sym s.means) fits.says;
      placed = sym (ap (λ (e : Earlier). placed_content e.verify c) s.stands ∙ unplaced c);
      small = fits.short;
      ordered = (faultless_is_in_order 3 kind (types_of s.records) type).0 in_place;
      few = omega (arith, s.few, room);
      not_ended = s.going;
      complete = complete;
    }

    pub spells_more : (type ≡ 0 → IsComplete kind (sent kind (s.records ++ this ∷ []))) → Spells (Follows (opening kind)) (text_of (bodies ++ (type, body) ∷ [])) (s.records ++ this ∷ [])
    spells_more complete = subst (λ l. Spells (Follows (opening kind)) l (s.records ++ this ∷ [])) (sym (text_more bodies type body)) (one_more (text_of bodies) s.records this (spelled type body) s.spells (follows complete))

    pub means_more : sent kind (s.records ++ this ∷ []) ≡ put_content g c
    means_more = one_more_record kind s.records this ∙ ap (λ h. put_content h c) s.means

    zero_not : nat_eq type 0 ≡ false → type ≡ 0 → IsComplete kind (sent kind (s.records ++ this ∷ []))
    zero_not other e = let no : nat_eq type 0 ≡ true = ap (λ n. nat_eq n 0) e in absurd (clash (sym no ∙ other))
      where
        clash : true ≡ false → ⊥
        clash q = cc

    -- what stands before the next record
    abbrev now : Earlier
    now = earlier_with (earlier_at stage s.content s.vcpu) type

    -- one record more, which isn't END
    pub more : nat_eq type 0 ≡ false → State kind (bodies ++ (type, body) ∷ []) (put_content g c) next (most + 1)
    more other = record {
      records = s.records ++ this ∷ [];
      spells = spells_more (zero_not other);
      means = means_more;
      going = ended_more s.records this ∙ ap (λ b. b || (nat_eq type 0 || false)) s.going ∙ ap (λ b. b || false) other;
      content = now.content;
      vcpu = now.vcpu;
      stands = earlier_more s.records this ∙ ap (λ e. earlier_with e type) s.stands ∙ step.leads s.content s.vcpu;
      few = omega (arith, s.few, length-append s.records (this ∷ []));
    }

-- ---- several records

-- a code whose records may stand at this stage
pub record IsWritten (kind : Kind) (stage : Stage) (code : PartCode) : Type 0 where
  pub step : IsStep kind (code_number code) stage stage
  pub known : is_some (type_of_number (code_number code)) ≡ true
  pub no_end : nat_eq (code_number code) 0 ≡ false

-- with one record at most, which sets all parts
abbrev pub IsOnce : GuestOf → PartCode → Type 0
IsOnce g code = AtOnce code (shape_of code) (parts_at code g)

module _ (g : GuestOf) (formed : IsFormed g) {kind : Kind} {stage : Stage} where
  -- the records with these bodies, which say these parts
  said_more : (code : PartCode) → IsWritten kind stage code → (bodies : List (List ℕ)) (said : List (List Part)) → SayAll code bodies said → (before : List Record) (h : GuestOf) (most : ℕ) → most + length bodies < 2 ^ 28 → State kind before h stage most
      → State kind (before ++ map (λ body. (code_number code, body)) bodies) (record h { parts = fold (set_parts code) h.parts said }) stage (most + length bodies)
  said_more code w [] [] says before h most room s = subst (λ l. State kind l h stage (most + 0)) (sym (append-nil before)) (looser s (most + 0) (omega arith))
  said_more code w [] (ps ∷ said) says before h most room s = absurd says
  said_more code w (body ∷ bodies) [] says before h most room s = absurd says
  said_more code w (body ∷ bodies) (ps ∷ said) says before h most room s =
      let this : Record = (code_number code, body) in let h1 = put_content h (Sets code ps) in
      let now = more s w.step (fits_of kind h.top code body ps w.known says.0) (omega (arith, room)) w.no_end in
      let rest = said_more code w bodies said says.1 (before ++ this ∷ []) h1 (most + 1) (omega (arith, room)) now in
      looser (subst (λ l. State kind l (record h { parts = fold (set_parts code) h1.parts said }) stage (most + 1 + length bodies)) (append_assoc before (this ∷ []) (map (λ b. (code_number code, b)) bodies)) rest) (most + suc (length bodies)) (omega arith)

  -- the records of one code
  code_more : (code : PartCode) → IsWritten kind stage code → IsOnce g code → (before : List Record) (h : GuestOf) (most : ℕ) → most + 1 < 2 ^ 28 → State kind before h stage most
      → State kind (before ++ records_of code g) (record h { parts = set_parts code h.parts (parts_at code g) }) stage (most + 1)
  code_more code w once before h most room s =
      let bodies = canonical_bodies code (parts_at code g) in
      let now = said_more code w bodies (contents_by_shape (shape_of code) (parts_at code g)) (canonical_bodies_say code g formed) before h most (omega (arith, room, once.one)) s in
      looser (subst (λ m. State kind (before ++ records_of code g) (record h { parts = m }) stage (most + length bodies)) (once.all h.parts) now) (most + 1) (omega (arith, once.one))

  -- the records of several codes
  pub codes_more : (codes : List PartCode) → AllByRecursion (IsWritten kind stage) codes → AllByRecursion (IsOnce g) codes → (before : List Record) (h : GuestOf) (most : ℕ) → most + length codes < 2 ^ 28 → State kind before h stage most
      → State kind (before ++ records_in_order codes g) (record h { parts = with_parts codes g h.parts }) stage (most + length codes)
  codes_more [] ws once before h most room s = subst (λ l. State kind l h stage (most + 0)) (sym (append-nil before)) (looser s (most + 0) (omega arith))
  codes_more (code ∷ codes) ws once before h most room s =
      let h1 = put_content h (Sets code (parts_at code g)) in
      let rest = codes_more codes ws.1 once.1 (before ++ records_of code g) h1 (most + 1) (omega (arith, room)) (code_more code ws.0 once.0 before h most (omega (arith, room)) s) in
      looser (subst (λ l. State kind l (record h { parts = with_parts codes g h1.parts }) stage (most + 1 + length codes)) (append_assoc before (records_of code g) (records_in_order codes g)) rest) (most + suc (length codes)) (omega arith)

-- ---- the parts of vCPUs

-- the record of such a part says it
abbrev pub PartSays : GuestOf → PartCode → Type 0
PartSays g code = (id : ℕ) (bytes : List ℕ) → maps.get g.parts (key_of code id) ≡ Some bytes → IsRecordBody code (part_body (shape_of code) (key_of code id, bytes)) ((key_of code id, bytes) ∷ [])

module _ (g : GuestOf) {kind : Kind} {stage : Stage} where
  -- the record of a part, if there is one
  part_more : (code : PartCode) → IsWritten kind stage code → (key : PartKey) (o : Option (List ℕ)) → ((bytes : List ℕ) → o ≡ Some bytes → IsRecordBody code (part_body (shape_of code) (key, bytes)) ((key, bytes) ∷ [])) → (before : List Record) (h : GuestOf) (most : ℕ) → most < 2 ^ 28 → State kind before h stage most
      → State kind (before ++ part_record code key o) (record h { parts = set_found code key o h.parts }) stage (most + 1)
  part_more code w key None says before h most room s = unmoved s
  part_more code w key (Some bytes) says before h most room s = more s w.step (fits_of kind h.top code (part_body (shape_of code) (key, bytes)) ((key, bytes) ∷ []) w.known (says bytes refl)) room w.no_end

  -- the records of one vCPU
  vcpu_more : (id : ℕ) (codes : List PartCode) → AllByRecursion (IsWritten kind stage) codes → AllByRecursion (PartSays g) codes → (before : List Record) (h : GuestOf) (most : ℕ) → most + length codes < 2 ^ 28 → State kind before h stage most
      → State kind (before ++ flat_map (vcpu_record g id) codes) (record h { parts = vcpu_set g id codes h.parts }) stage (most + length codes)
  vcpu_more id [] ws says before h most room s = subst (λ l. State kind l h stage (most + 0)) (sym (append-nil before)) (looser s (most + 0) (omega arith))
  vcpu_more id (code ∷ codes) ws says before h most room s =
      let key = key_of code id in let there = maps.get g.parts key in
      let h1 : GuestOf = record h { parts = set_found code key there h.parts } in
      let rest = vcpu_more id codes ws.1 says.1 (before ++ vcpu_record g id code) h1 (most + 1) (omega (arith, room)) (part_more code ws.0 key there (says.0 id) before h most (omega (arith, room)) s) in
      looser (subst (λ l. State kind l (record h { parts = vcpu_set g id codes h1.parts }) stage (most + 1 + length codes)) (append_assoc before (vcpu_record g id code) (flat_map (vcpu_record g id) codes)) rest) (most + suc (length codes)) (omega arith)

  -- the records of the first n vCPUs
  pub vcpus_state : AllByRecursion (IsWritten kind stage) vcpu_codes → AllByRecursion (PartSays g) vcpu_codes → (before : List Record) (h : GuestOf) (most : ℕ) → State kind before h stage most → (n : ℕ) → most + 4 * n < 2 ^ 28
      → State kind (before ++ vcpus_below g n) (record h { parts = vcpu_parts g n h.parts }) stage (most + 4 * n)
  vcpus_state ws says before h most s zero room = subst (λ l. State kind l h stage (most + 0)) (sym (append-nil before)) (looser s (most + 0) (omega arith))
  vcpus_state ws says before h most s (suc n) room =
      let now = vcpus_state ws says before h most s n (omega (arith, room)) in
      let h1 : GuestOf = record h { parts = vcpu_parts g n h.parts } in
      let next = vcpu_more n vcpu_codes ws says (before ++ vcpus_below g n) h1 (most + 4 * n) (omega (arith, room)) now in
      looser (subst (λ l. State kind l (record h { parts = vcpu_parts g (suc n) h.parts }) stage (most + 4 * n + 4)) (append_assoc before (vcpus_below g n) (records_of_vcpu g n) ∙ ap (λ l. before ++ l) (sym (vcpus_more g n))) next) (most + 4 * suc n) (omega arith)
