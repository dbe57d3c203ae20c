-- What a line leaves.
use Rattle.std.specs.FinMap as maps
use Rattle.std.proofs.Common.{◌≡◌, ◌≢◌, ◌≤◌, ℕ, ◌+◌, ◌++◌, Bool, true, false, cond, List, length, take, drop, Option, Some, None, refl, ap, subst, ◌∙◌}
use Rattle.std.specs.Option.{option_map, unwrap_or}
use Rattle.mig_bytes.proofs.NumberMaps.{inserted, inserted_other, removed, removed_other}
use Rattle.mig_guest.proofs.PartSets.{put_there}
use Rattle.mig_guest.specs.declared.part_key.PartKey.{PartKey}
use Rattle.mig_host.specs.Changes.{changed_at, page_for, put_or_stay}
use Rattle.mig_pagestore.specs.Pages.{spliced}
use Rattle.mig_pagetypes.specs.declared.page_type.PageType.TheVariants.{Notab}
use Rattle.mig_machine_script.specs.HostLines.{changed_by, typed_as}
use Rattle.mig_machine_laws.proofs.Common.{HostFrame, HostOf, LineOf, PageType, after_line, applies, type_has_data, type_of, replicate, false_from_ne_true, Write, Retype, Add, Remove, Exchange, Put, Dot}
use Rattle.mig_machine_laws.specs.ScriptWords.{MayApply, NamesPfn, frame_after, is_allowed_number}
use Rattle.mig_machine_laws.specs.ScriptWords.MayApply.{write as may_write, retype as may_retype}
use Rattle.mig_machine_laws.specs.ScriptWords.NamesPfn.{write as names_write, retype as names_retype, add as names_add, remove as names_remove, exchange as names_exchange}
use Rattle.mig_machine_laws.proofs.LinesApply.{asked}

-- behind a line that applies
applied : (h : HostOf) (line : LineOf) → MayApply h line → after_line h line ≡ changed_by h line
applied h line may = ap (λ b. cond b (changed_by h line) h) ((asked h line).1 may)

applied_at : (h : HostOf) (line : LineOf) (pfn : ℕ) → MayApply h line → frame_after h line pfn ≡ maps.get (changed_by h line).frames pfn
applied_at h line pfn may = ap (λ (g : HostOf). maps.get g.frames pfn) (applied h line may)

-- a frame that is there and is changed
changed_there : (h : HostOf) (pfn : ℕ) (change : HostFrame → HostFrame) (frame : HostFrame) → maps.get h.frames pfn ≡ Some frame → maps.get (changed_at h pfn change).frames pfn ≡ Some (change frame)
changed_there h pfn change frame there = ap (λ o. maps.get (put_or_stay o h pfn change).frames pfn) there ∙ inserted h.frames pfn pfn (change frame) refl

pub write : (h : HostOf) (pfn at : ℕ) (bytes page : List ℕ) (frame : HostFrame) → maps.get h.frames pfn ≡ Some frame → frame.page ≡ Some page → at + length bytes ≤ 4096
    → frame_after h (Write pfn at bytes) pfn ≡ Some (record frame { page = Some ((take at page ++ bytes) ++ drop (at + length bytes) page) })
write h pfn at bytes page frame there has fits =
    applied_at h (Write pfn at bytes) pfn (may_write pfn at bytes page frame there has fits)
    ∙ changed_there h pfn (λ f. record f { page = option_map (λ page. spliced page at bytes) f.page }) frame there
    ∙ ap (λ o. Some (record frame { page = option_map (λ page. spliced page at bytes) o })) has

retyped_as : (h : HostOf) (pfn number : ℕ) (frame : HostFrame) (type : PageType) → maps.get h.frames pfn ≡ Some frame → type_of number ≡ Some type → is_allowed_number h.kind number ≡ true
    → frame_after h (Retype pfn number) pfn ≡ Some (record { type = type; machine = frame.machine; page = page_for type frame.page })
retyped_as h pfn number frame type there is allowed =
    applied_at h (Retype pfn number) pfn (may_retype pfn number frame there allowed)
    ∙ ap (λ o. maps.get (typed_as h pfn o).frames pfn) is
    ∙ changed_there h pfn (λ f. record { type = type; machine = f.machine; page = page_for type f.page }) frame there

pub retype_keeps : (h : HostOf) (pfn number : ℕ) (frame : HostFrame) (type : PageType) (page : List ℕ) → maps.get h.frames pfn ≡ Some frame → type_of number ≡ Some type → is_allowed_number h.kind number ≡ true
    → type_has_data type ≡ true → frame.page ≡ Some page → frame_after h (Retype pfn number) pfn ≡ Some (record { type = type; machine = frame.machine; page = Some page })
retype_keeps h pfn number frame type page there is allowed paged has =
    retyped_as h pfn number frame type there is allowed
    ∙ ap (λ b. Some (record { type = type; machine = frame.machine; page = cond b (Some (unwrap_or frame.page (replicate 4096 0))) None })) paged
    ∙ ap (λ o. Some (record { type = type; machine = frame.machine; page = Some (unwrap_or o (replicate 4096 0)) })) has

pub retype_zeros : (h : HostOf) (pfn number : ℕ) (frame : HostFrame) (type : PageType) → maps.get h.frames pfn ≡ Some frame → type_of number ≡ Some type → is_allowed_number h.kind number ≡ true
    → type_has_data type ≡ true → frame.page ≡ None → frame_after h (Retype pfn number) pfn ≡ Some (record { type = type; machine = frame.machine; page = Some (replicate 4096 0) })
retype_zeros h pfn number frame type there is allowed paged none =
    retyped_as h pfn number frame type there is allowed
    ∙ ap (λ b. Some (record { type = type; machine = frame.machine; page = cond b (Some (unwrap_or frame.page (replicate 4096 0))) None })) paged
    ∙ ap (λ o. Some (record { type = type; machine = frame.machine; page = Some (unwrap_or o (replicate 4096 0)) })) none

pub retype_drops : (h : HostOf) (pfn number : ℕ) (frame : HostFrame) (type : PageType) → maps.get h.frames pfn ≡ Some frame → type_of number ≡ Some type → is_allowed_number h.kind number ≡ true
    → type_has_data type ≡ false → frame_after h (Retype pfn number) pfn ≡ Some (record { type = type; machine = frame.machine; page = None })
retype_drops h pfn number frame type there is allowed paged =
    retyped_as h pfn number frame type there is allowed
    ∙ ap (λ b. Some (record { type = type; machine = frame.machine; page = cond b (Some (unwrap_or frame.page (replicate 4096 0))) None })) paged

pub add : (h : HostOf) (pfn mfn : ℕ) → MayApply h (Add pfn mfn) → frame_after h (Add pfn mfn) pfn ≡ Some (record { type = Notab; machine = mfn; page = Some (replicate 4096 0) })
add h pfn mfn may = applied_at h (Add pfn mfn) pfn may ∙ inserted h.frames pfn pfn (record { type = Notab; machine = mfn; page = Some (replicate 4096 0) }) refl

pub remove : (h : HostOf) (pfn : ℕ) → MayApply h (Remove pfn) → frame_after h (Remove pfn) pfn ≡ None
remove h pfn may = applied_at h (Remove pfn) pfn may ∙ removed h.frames pfn pfn refl

pub exchange : (h : HostOf) (pfn mfn : ℕ) (frame : HostFrame) → maps.get h.frames pfn ≡ Some frame → MayApply h (Exchange pfn mfn) → frame_after h (Exchange pfn mfn) pfn ≡ Some (record frame { machine = mfn })
exchange h pfn mfn frame there may = applied_at h (Exchange pfn mfn) pfn may ∙ changed_there h pfn (λ f. record f { machine = mfn }) frame there

pub put : (h : HostOf) (code first second : ℕ) (bytes : List ℕ) → MayApply h (Put code first second bytes) → maps.get (after_line h (Put code first second bytes)).parts (record { code = code; key1 = first; key2 = second }) ≡ Some bytes
put h code first second bytes may =
    let key : PartKey = record { code = code; key1 = first; key2 = second } in
    ap (λ (g : HostOf). maps.get g.parts key) (applied h (Put code first second bytes) may) ∙ put_there h.parts key bytes

-- ---- what stays

stays_at : (h : HostOf) (pfn q : ℕ) (change : HostFrame → HostFrame) → q ≢ pfn → (o : Option HostFrame) → maps.get (put_or_stay o h pfn change).frames q ≡ maps.get h.frames q
stays_at h pfn q change ne None = refl
stays_at h pfn q change ne (Some f) = inserted_other h.frames pfn q (change f) ne

stays_typed : (h : HostOf) (pfn q : ℕ) → q ≢ pfn → (o : Option PageType) → maps.get (typed_as h pfn o).frames q ≡ maps.get h.frames q
stays_typed h pfn q ne None = refl
stays_typed h pfn q ne (Some type) = stays_at h pfn q (λ f. record { type = type; machine = f.machine; page = page_for type f.page }) ne (maps.get h.frames pfn)

unchanged : (h : HostOf) (line : LineOf) (q : ℕ) → (NamesPfn q line → ⊥) → maps.get (changed_by h line).frames q ≡ maps.get h.frames q
unchanged h (Write pfn at bytes) q not =
    stays_at h pfn q (λ f. record f { page = option_map (λ page. spliced page at bytes) f.page }) (λ e. not (subst (λ p. NamesPfn q (Write p at bytes)) e (names_write at bytes))) (maps.get h.frames pfn)
unchanged h (Retype pfn number) q not = stays_typed h pfn q (λ e. not (subst (λ p. NamesPfn q (Retype p number)) e (names_retype number))) (type_of number)
unchanged h (Add pfn mfn) q not =
    inserted_other h.frames pfn q (record { type = Notab; machine = mfn; page = Some (replicate 4096 0) }) (λ e. not (subst (λ p. NamesPfn q (Add p mfn)) e (names_add mfn)))
unchanged h (Remove pfn) q not = removed_other h.frames pfn q (λ e. not (subst (λ p. NamesPfn q (Remove p)) e names_remove))
unchanged h (Exchange pfn mfn) q not = stays_at h pfn q (λ f. record f { machine = mfn }) (λ e. not (subst (λ p. NamesPfn q (Exchange p mfn)) e (names_exchange mfn))) (maps.get h.frames pfn)
unchanged h (Put code first second bytes) q not = refl
unchanged h Dot q not = refl

pub others : (h : HostOf) (line : LineOf) (pfn : ℕ) → (NamesPfn pfn line → ⊥) → frame_after h line pfn ≡ maps.get h.frames pfn
others h line pfn not = by (applies h line)
  where
    by : (b : Bool) → maps.get (cond b (changed_by h line) h).frames pfn ≡ maps.get h.frames pfn
    by true = unchanged h line pfn not
    by false = refl

parts_at : (h : HostOf) (pfn : ℕ) (change : HostFrame → HostFrame) (o : Option HostFrame) → (put_or_stay o h pfn change).parts ≡ h.parts
parts_at h pfn change None = refl
parts_at h pfn change (Some f) = refl

parts_typed : (h : HostOf) (pfn : ℕ) (o : Option PageType) → (typed_as h pfn o).parts ≡ h.parts
parts_typed h pfn None = refl
parts_typed h pfn (Some type) = parts_at h pfn (λ f. record { type = type; machine = f.machine; page = page_for type f.page }) (maps.get h.frames pfn)

parts_unchanged : (h : HostOf) (line : LineOf) → ((code first second : ℕ) (bytes : List ℕ) → line ≢ Put code first second bytes) → (changed_by h line).parts ≡ h.parts
parts_unchanged h (Write pfn at bytes) other = parts_at h pfn (λ f. record f { page = option_map (λ page. spliced page at bytes) f.page }) (maps.get h.frames pfn)
parts_unchanged h (Retype pfn number) other = parts_typed h pfn (type_of number)
parts_unchanged h (Add pfn mfn) other = refl
parts_unchanged h (Remove pfn) other = refl
parts_unchanged h (Exchange pfn mfn) other = parts_at h pfn (λ f. record f { machine = mfn }) (maps.get h.frames pfn)
parts_unchanged h (Put code first second bytes) other = absurd (other code first second bytes refl)
parts_unchanged h Dot other = refl

pub parts : (h : HostOf) (line : LineOf) → ((code first second : ℕ) (bytes : List ℕ) → line ≢ Put code first second bytes) → (after_line h line).parts ≡ h.parts
parts h line other = by (applies h line)
  where
    by : (b : Bool) → (cond b (changed_by h line) h).parts ≡ h.parts
    by true = parts_unchanged h line other
    by false = refl

pub idle : (h : HostOf) (line : LineOf) → (MayApply h line → ⊥) → after_line h line ≡ h
idle h line not = ap (λ b. cond b (changed_by h line) h) (false_from_ne_true (applies h line) (λ is. not ((asked h line).0 is)))
