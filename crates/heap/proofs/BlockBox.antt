-- A box of a block, as std's generic functions take it. Assumes nothing.
use Rattle.std.proofs.Common.{[], ◌∷◌, refl}
use mir.Raw.{raw}
use mir.Syntax.{Dict, impl, tnil, tcons, dnil}
use denote.Array.{Array}
use denote.Exit.{no}
use denote.RattleType.{RattleType}
use denote.Builtin.{u64}
use denote.Param.{arg, layout}
use denote.Param.Laws.{Laws, arg_laws, array_laws, of_field}
use denote.Param.Shared.{copy_shared}
use denote.Struct.Field.{u64-field}
use denote.Struct.Laws.{u64-laws, u64-copy}
use Rattle.std.specs.contracts.alloc.Global as heap
use Rattle.std.proofs.alloc.Global.TheLaws as heap_laws
use Rattle.std.specs.contracts.impls.GlobalAllocator.TheImpl.{ghosts, dict}
use Rattle.std.proofs.BoxSteps.Form as box
use Rattle.heap.specs.Sizes.{block_words}

abbrev pub Words : RattleType
Words = arg (layout (Array u64 block_words)) no (Array u64 block_words)

abbrev pub words_laws : Laws Words
words_laws = arg_laws (layout (Array u64 block_words)) no (Array u64 block_words) (array_laws u64 (of_field u64-field u64-laws refl (copy_shared u64-field u64-copy)) block_words) refl

abbrev pub Handle : RattleType
Handle = arg (raw (layout heap.the_row)) no heap.the_row

abbrev pub handle_laws : Laws Handle
handle_laws = arg_laws (raw (layout heap.the_row)) no heap.the_row heap_laws.the_row_laws refl

-- neither has anything to drop
abbrev pub no_drop : RattleType → Dict
no_drop X = impl ("heap::Destruct++none::drop" ∷ []) (tcons (layout X) tnil) dnil

abbrev pub E : box.Bx
E = record { row = Words; laws = words_laws; al = record { row = Handle; laws = handle_laws; g = ghosts; d = dict; drops = no_drop Handle } }
