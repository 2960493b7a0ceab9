-- One name that opens every definition of the rules, for proofs by computation. Assumes nothing.
use Prim.Native.Nat.{ℕ}
use mathlib.Core.List.{flat_map, head_d}
use mathlib.Core.Option.{Option-elim, bind}
use Rattle.rules.specs.Level
use Rattle.rules.specs.Number
use Rattle.rules.specs.Tree
use Rattle.rules.specs.Script
use Rattle.rules.specs.Blocks
use Rattle.rules.specs.Bytes
use Rattle.rules.specs.Check
use Rattle.rules.specs.Job
use Rattle.rules.specs.Run
use Rattle.rules.specs.Outcome
use Rattle.rules.specs.Public
use Rattle.rules.specs.Board
use Rattle.rules.specs.History
use Rattle.rules.specs.Season
use Rattle.rules.specs.Clean
use Rattle.rules.specs.Arrange
use Rattle.rules.specs.Write
use Rattle.rules.specs.Projection
use Rattle.rules.specs.Lanes
use Rattle.rules.specs.Trials
use Rattle.rules.specs.Summary

-- a proof that says `unfolding computed` computes with all of them
unfoldable pub computed : ℕ
unfolding flat_map head_d Option-elim bind Level.has Level.public Level.secret Level.join Level.not_above Level.is_level Level.visible Level.parties Number.bits Number.signed Number.fitting Number.sum Number.difference Number.same Number.truth Number.equal Number.less Number.mean Number.is_zero Tree.no_label Tree.label Tree.exists Tree.count Tree.size Tree.along Tree.up Tree.left_of Tree.sub Tree.last_from Tree.last_of Tree.on_side Tree.change Tree.insert Tree.remove Tree.same_side Tree.beyond Tree.without Tree.past Tree.after_insert Tree.after_remove Tree.with_value Tree.set_value Tree.fits_node Tree.fits Script.apply Script.secret_if Script.content_set Script.list_set Script.cover_set Script.commands Script.action_number Script.number Script.rows Script.fetch Script.number_at Blocks.branches Blocks.opens Blocks.closes Blocks.after Blocks.head_is Blocks.first_from Blocks.parts Blocks.head_is_if Blocks.placed Blocks.block_rule Blocks.closes_part Blocks.closer Blocks.past_else Blocks.past_end Blocks.goes_to Bytes.half Bytes.two Bytes.full Bytes.variables_at Bytes.nodes_at Bytes.script_at Bytes.trailer_at Bytes.variable_count Bytes.node_count Bytes.record_count Check.length_rule Check.whole Check.offset_rule Check.count_rule Check.variable_rule Check.parent Check.existence Check.content Check.structure Check.parent_rule Check.label_rule Check.nearest Check.left_rule Check.child_rule Check.node_rule Check.on_path Check.order_rule Check.operand_rule Check.expression_rule Check.fields_rule Check.record_rule Check.variable_reads Check.node_reads Check.field_reads Check.has_number Check.reads_right Check.reads_target Check.record_reads Check.spare_rule Check.variable_clean Check.node_clean Check.record_clean Check.code Check.first_fault Check.require Check.require_each Check.first Check.clean Check.unordered Check.ordered Check.today Check.variable_rule_in Check.house_rule Check.node_rule_in Check.record_rule_in Check.require_if Check.check_script Check.check_records Check.check_bytes_by Job.all_levels Job.listed Job.variable_of Job.variables Job.label_of Job.children_of Job.tree_of Job.job_tree Job.operand Job.expression Job.expression_of Job.set_at Job.command_by Job.script_from Job.script_by Run.stop_number Run.need Run.given Run.no_variable Run.variable_at Run.context Run.current Run.operand_value Run.operand_level Run.value Run.level_of Run.with_variables Run.with_tree Run.with_cursor Run.with_line Run.position Run.flow_of Run.context_flow Run.assign Run.output Run.move_to Run.go_joining Run.go_to Run.go_to_last Run.may_touch Run.new_label Run.insert_at Run.remove_at Run.write Run.effect Run.relocate Run.on_saved Run.on_block Run.restore Run.leave Run.stepped Run.onward Run.relocated Run.pushed Run.saving Run.raised Run.enter_if Run.enter_while Run.enter_back Run.leave_block Run.carried Run.step Run.run Run.start Outcome.budget_rule Outcome.buffer_rule Outcome.and_then Outcome.check_job_by Outcome.check_job Outcome.begin Outcome.run_job_by Outcome.run_job Outcome.ending_number Outcome.ending_index Outcome.answer Outcome.board_lines Public.seen_value Public.seen_variable Public.seen_label Public.seen_node Public.AgreeVariables Public.AgreeTrees Public.seen_lines Public.Noninterference Public.Demand3 Board.outcome Board.board History.section_count History.section_script History.section_rule History.store_rule History.check_follow_on History.follow History.leaves History.after History.history History.after_all History.job_store History.after_job History.SameScripts Season.attempt Season.is_finished Season.commits Season.published Season.commit Season.season Season.closing Season.verdicts Season.boards Season.rollbacks Season.ways Season.seen_boards Season.shows Season.rolled_back Clean.spot_in Clean.spot_of Clean.reads_at Clean.is_read Clean.clean_byte Clean.cleaned Clean.change_at Clean.is_dirty Clean.changes Clean.report Clean.left_clean Arrange.moved Arrange.moves Arrange.moved_bytes Arrange.arranged Arrange.left_arranged Write.four Write.variable Write.node Write.trailer Write.listing Write.node_bytes Write.variable_bytes Write.written_size Write.written Write.script_section Write.job_of Write.check_write Write.write_answer Write.left_written Projection.everyone Projection.mask Projection.cut_label Projection.cut Projection.mask_variable Projection.view_variables Projection.view_store Projection.project Lanes.nothing Lanes.beside Lanes.asking Lanes.query Lanes.entered Lanes.lane Lanes.stands Lanes.decided Lanes.housed Lanes.unloaded Trials.number Trials.v Trials.value Trials.children Trials.setting Trials.both Trials.one Trials.bare Trials.cover Trials.job Trials.pair Trials.usual Trials.childless Trials.with_places Trials.try Trials.line_for Trials.stops Trials.finishes Trials.ends Trials.shown Trials.labelled Trials.leaf Trials.over Trials.same Trials.values Trials.trial Trials.guarded Trials.wandering Trials.trials Trials.returning Trials.from_child Trials.back_trials Trials.beside_new Trials.uncounted Trials.uncounted_tree Trials.move_trials Trials.set_trials Summary.carried Summary.summary
computed = 0
