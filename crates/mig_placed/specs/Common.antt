-- Names that several definitions and contracts of this crate use.
pub use Rattle.mig_guest.specs.Frames.{entries_from}
pub use Rattle.mig_pagestore.specs.Frames.{FrameMap, FrameOf, framed}
pub use Rattle.mig_pagestore.specs.FrameView.{AreCells, IsCell, cell_mark, cell_type, whole_page}
pub use Rattle.mig_pagestore.specs.Mapped.{mapped}
pub use Rattle.mig_pagestore_index.specs.Indexed.{ValueMap}
pub use Rattle.mig_pagetypes.specs.FrameWords.{word_of}
pub use Rattle.mig_pagetypes.specs.Limits.{pfn_limit}
pub use Rattle.mig_pagetypes.specs.PageTypes.{type_has_data}
pub use Rattle.mig_pagetypes.specs.declared.frame_word.FrameWord.{FrameWord}
pub use Rattle.mig_pagetypes.specs.declared.page_type.PageType.{PageType}
pub use Rattle.mig_pagetypes.specs.declared.page_type.PageType.TheVariants.{Xtab}
pub use Rattle.mig_records_pages.specs.PageData.{Frame, pages_of}
