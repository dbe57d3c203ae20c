use Rattle.mig_pagestore.proofs.Common.{◌≡◌, ◌<◌, ◌-◌, Some, length, sym, ap, ◌∙◌, arith, inl, inr, length-set, Framed, FrameMap, frame_page, with_page}
use Rattle.mig_pagestore.proofs.Places.{page_found}
use Rattle.mig_pagestore.proofs.Seen.{page_none, page_at, repaged_seen}
use Rattle.mig_pagestore.proofs.frame_store.FrameStore.lend.Goals as goal

pub returns-then-place-eq0 : goal.returns-then-place-eq0
returns-then-place-eq0 c =
    let at = c.open_page-place.ensures in (
      (λ i. inr (((λ j. record { frames = at.frames j; spare = c.self.inside.spare }) ∙ c.self.view_is) i)),
      record { writes_back = tt; value = sym (page_none _ _ c.args.pfn (sym at.mark ∙ c.if-place-eq0.true)) ∙ ap (λ (m : FrameMap). frame_page m c.args.pfn) at.frames ∙ ap (λ (s : Framed). frame_page s.frames c.args.pfn) c.self.view_is },
    )

pub returns : goal.returns
returns c =
    let at = c.open_page-place.ensures in let led = at.led in let pages = c.open_page-place.new.arena.pages in let pfn = c.args.pfn in
    let found : Some c.lend.result.now ≡ Some c.get.result.now = sym c.lend.ensures.value ∙ c.get.ensures in let same : c.lend.result.now ≡ c.get.result.now = cc in
    let some : 0 < c.open_page-place.result = omega (arith, c.if-place-eq0.false) in (
      (λ i. inl (
        c.lend.result.ghost_name,
        λ w.
            ((λ j. record { frames = repaged_seen pages _ _ led pfn _ w at.place some j; spare = c.self.inside.spare })
            ∙ (λ j. record { frames = with_page (at.frames j) pfn w; spare = c.self.inside.spare })
            ∙ ap (λ (s : Framed). record s { frames = with_page s.frames pfn w }) c.self.view_is) i,
      )),
      record { writes_back = tt; value = page_found pages _ c.get.result.now c.lend.result.now some c.get.ensures same (ap length (same ∙ sym c.whole-page.ensures.same) ∙ c.whole-page.ensures.size) ∙ page_at pages _ pfn _ at.place some ∙ ap (λ (m : FrameMap). frame_page m pfn) at.frames ∙ ap (λ (s : Framed). frame_page s.frames pfn) c.self.view_is },
    )

pub invariant_of-self-lent : goal.invariant_of-self-lent
invariant_of-self-lent c = λ w.
    let at = c.open_page-place.ensures in let room = c.self.invariant.1 in (
      record { typed = at.led.typed; leads = at.led.leads; as_many = at.led.as_many ∙ sym (length-set c.open_page-place.new.arena.pages (c.open_page-place.result - 1) w) },
      record {
        numbers = omega (arith, room.numbers, at.numbers);
        pages = omega (arith, room.pages, at.pages);
        places = omega (arith, room.places, at.pfns, at.capacity);
        few = omega (arith, room.few, at.pfns);
      },
      at.count,
    )
