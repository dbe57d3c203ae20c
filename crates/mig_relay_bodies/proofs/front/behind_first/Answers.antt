use Rattle.mig_relay_bodies.proofs.Common.{arith, PvInfo, P2mFrames, BasicVcpu, OtherVcpu, HvmParams, EmulatorPairs, EmulatorContext}
use Rattle.mig_relay_bodies.proofs.FirstPieces.{at_form, info_first, frames_first, basic_first, other_first, pairs_first, context_first}
use Rattle.mig_relay_bodies.proofs.front.behind_first.Goals as goal

pub returns-in-PvInfo : goal.returns-in-PvInfo
returns-in-PvInfo c = at_form c.args.form PvInfo _ c.args.len c.args.piece.now c.in-PvInfo.is (info_first c.args.len c.args.piece.now _ (omega arith) c.info_fault.ensures)

pub returns-in-P2mFrames : goal.returns-in-P2mFrames
returns-in-P2mFrames c = at_form c.args.form P2mFrames _ c.args.len c.args.piece.now c.in-P2mFrames.is (frames_first c.args.len c.args.piece.now _ (omega arith) c.p2m_fault.ensures)

pub returns-in-BasicVcpu : goal.returns-in-BasicVcpu
returns-in-BasicVcpu c = at_form c.args.form BasicVcpu _ c.args.len c.args.piece.now c.in-BasicVcpu.is (basic_first c.args.len c.args.piece.now _ (omega arith) c.id_fault.ensures)

pub returns-in-OtherVcpu : goal.returns-in-OtherVcpu
returns-in-OtherVcpu c = at_form c.args.form OtherVcpu _ c.args.len c.args.piece.now c.in-OtherVcpu.is (other_first c.args.len c.args.piece.now _ (omega arith) c.id_fault-in-OtherVcpu.ensures)

pub returns-in-HvmParams : goal.returns-in-HvmParams
returns-in-HvmParams c = at_form c.args.form HvmParams _ c.args.len c.args.piece.now c.in-HvmParams.is (λ fits size. c.behind_params.ensures size)

pub returns-in-EmulatorPairs : goal.returns-in-EmulatorPairs
returns-in-EmulatorPairs c = at_form c.args.form EmulatorPairs _ c.args.len c.args.piece.now c.in-EmulatorPairs.is (pairs_first c.args.len c.args.piece.now _ _ (omega arith) (λ body whole. c.emulator_fault.ensures body) c.no_pairs.ensures)

pub returns-in-EmulatorContext : goal.returns-in-EmulatorContext
returns-in-EmulatorContext c = at_form c.args.form EmulatorContext _ c.args.len c.args.piece.now c.in-EmulatorContext.is (context_first c.args.len c.args.piece.now _ (omega arith) (λ body whole. c.emulator_fault-in-EmulatorContext.ensures body))
